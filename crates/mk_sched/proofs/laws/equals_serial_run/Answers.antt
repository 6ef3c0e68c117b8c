use Rattle.mk_sched.proofs.Plainly.{equals_serial_run}
use Rattle.mk_sched.proofs.laws.equals_serial_run.Goals as goal

pub returns : goal.returns
returns c = equals_serial_run
