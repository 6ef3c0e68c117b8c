use Rattle.mk_decide.proofs.OneChain.{chosen_is_one}
use Rattle.mk_decide.proofs.laws.chosen_is_one.Goals as goal

pub returns : goal.returns
returns c = chosen_is_one
