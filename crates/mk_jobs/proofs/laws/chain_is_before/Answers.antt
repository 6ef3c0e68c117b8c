use Rattle.mk_jobs.proofs.ChainLemmas.{chain_is_before}
use Rattle.mk_jobs.proofs.laws.chain_is_before.Goals as goal

pub returns : goal.returns
returns c = chain_is_before
