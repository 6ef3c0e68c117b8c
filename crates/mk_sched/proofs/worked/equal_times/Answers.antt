use Rattle.mk_sched.proofs.Computed.{equal_times}
use Rattle.mk_sched.proofs.worked.equal_times.Goals as goal

pub returns : goal.returns
returns c = equal_times
