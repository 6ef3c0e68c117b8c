use Rattle.mk_sched.proofs.Plainly.{idle_never_starts}
use Rattle.mk_sched.proofs.laws.idle_never_starts.Goals as goal

pub returns : goal.returns
returns c = idle_never_starts
