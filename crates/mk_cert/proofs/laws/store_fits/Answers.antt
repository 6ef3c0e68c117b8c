use Rattle.mk_cert.proofs.Followed.{fitting}
use Rattle.mk_cert.proofs.laws.store_fits.Goals as goal

pub returns : goal.returns
returns c = fitting
