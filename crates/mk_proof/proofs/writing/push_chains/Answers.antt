use Rattle.std.proofs.Common.{◌++◌, List, ℕ, ap, ◌∙◌, arith}
use Rattle.std.proofs.lemmas.List.{take_all}
use Rattle.std.specs.List.{flat_map}
use Rattle.mk_proof.specs.ProofText.{chain_line, written}
use Rattle.mk_proof.proofs.Written.{flat_map-map}
use Rattle.mk_proof.proofs.writing.push_chains.Goals as goal

pub returns : goal.returns
returns c =
    c.loop-number.invariant
    ∙ ap (λ (t : List ℕ). c.args.out.now.items ++ t)
    (ap (flat_map (λ x. written (chain_line x))) (take_all c.loop-number.number c.args.certificate.now (omega (arith, c.count-number-end.ensures.value, c.loop-number-test.false)))
    ∙ flat_map-map chain_line c.args.certificate.now)
