use Rattle.mk_cert.proofs.Certified.{smaller_first}
use Rattle.mk_cert.proofs.laws.smaller_first.Goals as goal

pub returns : goal.returns
returns c = smaller_first
