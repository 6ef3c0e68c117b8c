use Rattle.mk_decide.proofs.Between.{neighbours_order_all}
use Rattle.mk_decide.proofs.laws.neighbours_order_all.Goals as goal

pub returns : goal.returns
returns c = neighbours_order_all
