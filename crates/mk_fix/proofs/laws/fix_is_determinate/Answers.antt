use Rattle.mk_fix.proofs.Fixing.{fix_determinate}
use Rattle.mk_fix.proofs.laws.fix_is_determinate.Goals as goal

pub returns : goal.returns
returns c = fix_determinate
