use Rattle.mk_cert.proofs.Certified.{determinate}
use Rattle.mk_cert.proofs.laws.certificate_is_determinate.Goals as goal

pub returns : goal.returns
returns c = determinate
