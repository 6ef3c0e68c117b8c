use Rattle.std.proofs.Common.{sym, subst}
use Rattle.mk_proof.specs.Shapes.{AreShapedChains}
use Rattle.mk_proof.proofs.Risen.{no_chains}
use Rattle.mk_proof.proofs.certificate.Certificate.new.Goals as goal

pub invariant_of-result : goal.invariant_of-result
invariant_of-result c = subst AreShapedChains (sym c.new.ensures) no_chains
