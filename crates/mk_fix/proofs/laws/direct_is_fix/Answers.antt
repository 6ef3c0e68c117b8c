use Rattle.mk_fix.proofs.Direct.{direct_fix}
use Rattle.mk_fix.proofs.laws.direct_is_fix.Goals as goal

pub returns : goal.returns
returns c = direct_fix
