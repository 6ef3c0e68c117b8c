use Rattle.mk_cert.proofs.Overlapping.{overlaps}
use Rattle.mk_cert.proofs.laws.overlaps_clash.Goals as goal

pub returns : goal.returns
returns c = overlaps
