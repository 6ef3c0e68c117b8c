use Rattle.mk_sched.proofs.ByTable.{in_time}
use Rattle.mk_sched.proofs.laws.in_time.Goals as goal

pub returns : goal.returns
returns c = in_time
