use Rattle.mk_jobs.proofs.ChainLemmas.{before_has_chain}
use Rattle.mk_jobs.proofs.laws.before_has_chain.Goals as goal

pub returns : goal.returns
returns c = before_has_chain
