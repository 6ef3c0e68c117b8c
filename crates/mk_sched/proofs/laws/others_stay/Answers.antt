use Rattle.mk_sched.proofs.Staying.{others_stay_too}
use Rattle.mk_sched.proofs.laws.others_stay.Goals as goal

pub returns : goal.returns
returns c = others_stay_too
