use Rattle.mk_fix.proofs.Fixing.{one_way}
use Rattle.mk_fix.proofs.laws.fix_is_one.Goals as goal

pub returns : goal.returns
returns c = λ jobs first second a b valid left right. one_way jobs first second valid left right a b
