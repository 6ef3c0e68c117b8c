use Rattle.mk_cert.proofs.Followed.{refutes}
use Rattle.mk_cert.proofs.laws.trace_refutes.Goals as goal

pub returns : goal.returns
returns c = refutes
