use Rattle.std.proofs.Common.{◌++◌, List, ℕ, ap, ◌∙◌}
use Rattle.std.proofs.lemmas.List.{take_all}
use Rattle.std.specs.List.{flat_map}
use Rattle.mk_proof.specs.ProofText.{step_line, written}
use Rattle.mk_proof.proofs.Written.{flat_map-map}
use Rattle.mk_proof.proofs.writing.push_steps.Goals as goal

pub returns : goal.returns
returns c =
    c.loop-step.invariant
    ∙ ap (λ (t : List ℕ). c.args.out.now.items ++ t)
    (ap (flat_map (λ x. written (step_line x))) (take_all c.loop-step.step-index c.args.steps.now c.loop-step-test.false) ∙ flat_map-map step_line c.args.steps.now)
