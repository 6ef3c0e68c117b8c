use Rattle.mk_path.proofs.Overs as overs
use Rattle.mk_path.proofs.laws.over_covers.Goals as goal

pub returns : goal.returns
returns c = record { own = overs.covers_own_name; name = overs.over_covers_name; all = overs.over_covers }
