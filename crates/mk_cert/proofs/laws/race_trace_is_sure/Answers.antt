use Rattle.mk_cert.proofs.Racing.{is_sure}
use Rattle.mk_cert.proofs.laws.race_trace_is_sure.Goals as goal

pub returns : goal.returns
returns c = is_sure
