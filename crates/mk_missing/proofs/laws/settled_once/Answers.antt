use Rattle.mk_missing.proofs.Settling.{settled_once}
use Rattle.mk_missing.proofs.laws.settled_once.Goals as goal

pub returns : goal.returns
returns c = settled_once
