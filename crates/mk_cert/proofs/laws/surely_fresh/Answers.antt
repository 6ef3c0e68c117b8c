use Rattle.mk_cert.proofs.Sound.{fresh}
use Rattle.mk_cert.proofs.laws.surely_fresh.Goals as goal

pub returns : goal.returns
returns c = fresh
