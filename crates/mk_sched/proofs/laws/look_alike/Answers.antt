use Rattle.mk_sched.proofs.TwoRuns.{look_alike}
use Rattle.mk_sched.proofs.laws.look_alike.Goals as goal

pub returns : goal.returns
returns c = λ jobs tie other_tie limit other opening. look_alike jobs opening tie other_tie limit other
