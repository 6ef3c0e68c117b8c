use Rattle.mk_fix.proofs.Fixing.{weakest}
use Rattle.mk_fix.proofs.laws.fix_is_weakest.Goals as goal

pub returns : goal.returns
returns c = λ jobs edges other a b valid fix rising free. weakest other valid fix rising free
