use Rattle.mk_jobs.proofs.JobsLemmas.{clash_live}
use Rattle.mk_jobs.proofs.laws.clash_is_live.Goals as goal

pub returns : goal.returns
returns c = λ jobs a b clash. clash_live clash.1
