use Rattle.mk_sched.proofs.InOrder.{serialised}
use Rattle.mk_sched.proofs.laws.serialised.Goals as goal

pub returns : goal.returns
returns c = serialised
