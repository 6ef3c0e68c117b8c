use Rattle.mk_path.proofs.Overs.{paths_of_one_name, trees_over_one}
use Rattle.mk_path.proofs.laws.over_meets.Goals as goal

pub returns : goal.returns
returns c = record { trees = trees_over_one; names = paths_of_one_name }
