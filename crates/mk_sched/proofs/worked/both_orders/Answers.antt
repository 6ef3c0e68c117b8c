use Rattle.mk_sched.proofs.Computed.{both_orders}
use Rattle.mk_sched.proofs.worked.both_orders.Goals as goal

pub returns : goal.returns
returns c = both_orders
