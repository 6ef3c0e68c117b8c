use Rattle.mk_cert.proofs.Certified.{race_free}
use Rattle.mk_cert.proofs.laws.certificate_is_race_free.Goals as goal

pub returns : goal.returns
returns c = race_free
