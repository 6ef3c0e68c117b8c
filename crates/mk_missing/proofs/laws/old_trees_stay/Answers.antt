use Rattle.mk_missing.proofs.FromClean.{old_trees_stay}
use Rattle.mk_missing.proofs.laws.old_trees_stay.Goals as goal

pub returns : goal.returns
returns c = old_trees_stay
