use Rattle.mk_sched.proofs.Plainly.{idle_is_fresh}
use Rattle.mk_sched.proofs.laws.idle_is_fresh.Goals as goal

pub returns : goal.returns
returns c = idle_is_fresh
