use Rattle.mk_missing.proofs.FromClean.{as_from_clean}
use Rattle.mk_missing.proofs.laws.as_from_clean.Goals as goal

pub returns : goal.returns
returns c = as_from_clean
