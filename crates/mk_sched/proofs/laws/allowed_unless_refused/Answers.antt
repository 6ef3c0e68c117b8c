use Rattle.mk_sched.proofs.Refusing.{allowed_unless_refused}
use Rattle.mk_sched.proofs.laws.allowed_unless_refused.Goals as goal

pub returns : goal.returns
returns c = allowed_unless_refused
