use Rattle.mk_fix.proofs.Adding.{clash_down, clash_up}
use Rattle.mk_fix.proofs.laws.clash_stays.Goals as goal

pub returns : goal.returns
returns c = λ jobs edges a b rising. (clash_down jobs edges rising a b, clash_up jobs edges rising a b)
