use Rattle.std.proofs.Common.{refl}
use Rattle.mk_program.specs.PosixBase.{posix_base, posix_lines}
use Rattle.mk_program.proofs.posix_base.posix_base.Goals as goal

pub returns : goal.returns
unfolding posix_base posix_lines
returns c = refl
