use Rattle.mk_jobs.proofs.JobsLemmas.{shape_valid}
use Rattle.mk_jobs.proofs.laws.shape_is_valid.Goals as goal

pub returns : goal.returns
returns c = λ jobs. shape_valid
