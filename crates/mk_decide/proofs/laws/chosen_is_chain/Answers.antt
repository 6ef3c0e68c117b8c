use Rattle.mk_decide.proofs.OneChain.{chosen_is_chain}
use Rattle.mk_decide.proofs.laws.chosen_is_chain.Goals as goal

pub returns : goal.returns
returns c = chosen_is_chain
