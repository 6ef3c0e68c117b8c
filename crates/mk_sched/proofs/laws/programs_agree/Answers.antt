use Rattle.mk_sched.proofs.Plainly.{programs_agree}
use Rattle.mk_sched.proofs.laws.programs_agree.Goals as goal

pub returns : goal.returns
returns c = programs_agree
