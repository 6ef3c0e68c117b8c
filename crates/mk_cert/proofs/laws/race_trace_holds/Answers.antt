use Rattle.mk_cert.proofs.Racing.{race_holds}
use Rattle.mk_cert.proofs.laws.race_trace_holds.Goals as goal

pub returns : goal.returns
returns c = race_holds
