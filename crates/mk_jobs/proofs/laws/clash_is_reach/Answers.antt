use Rattle.mk_jobs.proofs.Reaching as reaching
use Rattle.mk_jobs.proofs.laws.clash_is_reach.Goals as goal

pub returns : goal.returns
returns c = reaching.clash_is_reach
