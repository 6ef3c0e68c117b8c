use Rattle.mk_sched.proofs.OneRunCases.{races_leave}
use Rattle.mk_sched.proofs.worked.races_leave.Goals as goal

pub returns : goal.returns
returns c = races_leave
