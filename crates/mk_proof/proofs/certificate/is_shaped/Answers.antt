use Rattle.std.proofs.Common.{◌∙◌, arith, length, sym}
use Rattle.std.proofs.lemmas.Bool.{leb-true}
use Rattle.mk_proof.proofs.Risen.{chain_shaped}
use Rattle.mk_proof.proofs.certificate.is_shaped.Goals as goal
use Rattle.mk_proof.proofs.certificate.is_shaped.Goals.{then-chain-ge2, else-chain-ge2}

pub returns-then-chain-le-GREATEST_NODE : goal.returns-then-chain-le-GREATEST_NODE
returns-then-chain-le-GREATEST_NODE c =
    elim c.if-chain-ge2.branch [
      | then-chain-ge2 w ↦ (
        λ is. chain_shaped c.args.chain.now w.if-chain-ge2.true (leb-true _ _ (sym w.value-is ∙ c.if-chain-le-GREATEST_NODE.true)) (c.is_rising.ensures.0 is),
        λ shaped. c.is_rising.ensures.1 shaped.rises,
      )
      | else-chain-ge2 w ↦ absurd (omega (arith, leb-true 2 (length c.args.chain.now) (sym w.value-is ∙ c.if-chain-le-GREATEST_NODE.true), w.if-chain-ge2.false))
    ]
