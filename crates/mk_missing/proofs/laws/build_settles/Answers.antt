use Rattle.mk_missing.proofs.Building.{build_settles}
use Rattle.mk_missing.proofs.laws.build_settles.Goals as goal

pub returns : goal.returns
returns c = build_settles
