use Rattle.mk_jobs.proofs.JobsLemmas.{before_less}
use Rattle.mk_jobs.proofs.laws.chains_rise.Goals as goal

pub returns : goal.returns
returns c = λ jobs a b. before_less
