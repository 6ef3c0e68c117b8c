use Rattle.mk_fix.proofs.Direct.{before_must, must_before}
use Rattle.mk_fix.proofs.laws.must_is_before.Goals as goal

pub returns : goal.returns
returns c = λ jobs pairs a b are. (must_before jobs pairs are, before_must jobs pairs are)
