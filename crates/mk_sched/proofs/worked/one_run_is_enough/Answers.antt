use Rattle.mk_sched.proofs.OneRunCases.{one_run_is_enough}
use Rattle.mk_sched.proofs.worked.one_run_is_enough.Goals as goal

pub returns : goal.returns
returns c = one_run_is_enough
