use Rattle.mk_fix.proofs.Fixing.{nothing_to_fix}
use Rattle.mk_fix.proofs.laws.nothing_to_fix.Goals as goal

pub returns : goal.returns
returns c = nothing_to_fix
