use Rattle.mk_sched.proofs.Staying.{from_one_run}
use Rattle.mk_sched.proofs.laws.determinate_from_one_run.Goals as goal

pub returns : goal.returns
returns c = from_one_run
