use Rattle.std.proofs.Common.{◌∙◌, ap, arith, length, sym, subst}
use Rattle.std.proofs.lemmas.Bool.{ltb-true}
use Rattle.mk_proof.specs.Shapes.{AreShapedChains}
use Rattle.mk_proof.proofs.Risen.{chains_push}
use Rattle.mk_proof.proofs.certificate.Certificate.takes.Goals as goal
use Rattle.mk_proof.proofs.certificate.Certificate.takes.Goals.{then-count-lt-MOST_CHAINS, else-count-lt-MOST_CHAINS}

pub returns-then-is_shaped : goal.returns-then-is_shaped
returns-then-is_shaped c =
    let shaped = subst AreShapedChains c.self.view_is c.self.invariant in
    elim c.if-count-lt-MOST_CHAINS.branch [
      | then-count-lt-MOST_CHAINS w ↦ (
        λ is. chains_push c.args.self.now c.args.chain.now shaped (omega (arith, w.if-count-lt-MOST_CHAINS.true, c.count.ensures, ap length c.self.view_is))
            (w.is_shaped.ensures.0 (sym w.value-is ∙ c.if-is_shaped.true)) (c.is_below.ensures.0 is),
        λ all. c.is_below.ensures.1 all.rise,
      )
      | else-count-lt-MOST_CHAINS w ↦ absurd (omega (arith, ltb-true c.count.result 1000000 (sym w.value-is ∙ c.if-is_shaped.true), w.if-count-lt-MOST_CHAINS.false))
    ]
