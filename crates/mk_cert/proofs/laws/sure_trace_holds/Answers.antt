use Rattle.mk_cert.proofs.Sound.{holds}
use Rattle.mk_cert.proofs.laws.sure_trace_holds.Goals as goal

pub returns : goal.returns
returns c = holds
