use Rattle.mk_missing.proofs.Unpacked.{unpacks_afresh}
use Rattle.mk_missing.proofs.worked.unpacks_afresh.Goals as goal

pub returns : goal.returns
returns c = unpacks_afresh
