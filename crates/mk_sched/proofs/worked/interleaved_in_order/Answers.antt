use Rattle.mk_sched.proofs.Computed.{interleaved_in_order}
use Rattle.mk_sched.proofs.worked.interleaved_in_order.Goals as goal

pub returns : goal.returns
returns c = interleaved_in_order
