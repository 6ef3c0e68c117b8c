use Rattle.mk_sched.proofs.TwoRuns.{stale_alike}
use Rattle.mk_sched.proofs.laws.stale_alike.Goals as goal

pub returns : goal.returns
returns c = λ jobs tie limit other opening. stale_alike jobs opening tie limit other
