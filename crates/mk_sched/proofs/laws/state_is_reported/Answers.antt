use Rattle.mk_sched.proofs.ByTable.{state_reported}
use Rattle.mk_sched.proofs.laws.state_is_reported.Goals as goal

pub returns : goal.returns
returns c = state_reported
