use Rattle.mk_sched.proofs.Plainly.{agree_means}
use Rattle.mk_sched.proofs.laws.agree_means.Goals as goal

pub returns : goal.returns
returns c = agree_means
