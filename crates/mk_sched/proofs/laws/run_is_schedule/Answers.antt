use Rattle.mk_sched.proofs.Staying.{run_is_schedule}
use Rattle.mk_sched.proofs.laws.run_is_schedule.Goals as goal

pub returns : goal.returns
returns c = run_is_schedule
