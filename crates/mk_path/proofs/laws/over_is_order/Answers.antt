use Rattle.mk_path.proofs.Overs.{over_further, over_self}
use Rattle.mk_path.proofs.laws.over_is_order.Goals as goal

pub returns : goal.returns
returns c = record { itself = over_self; further = over_further }
