use Rattle.mk_cert.proofs.Clashing.{moves}
use Rattle.mk_cert.proofs.laws.step_moves.Goals as goal

pub returns : goal.returns
returns c = moves
