use Rattle.std.proofs.Common.{◌≡◌, ◌++◌, take}
use Rattle.std.specs.List.{flat_map}
use Rattle.mk_proof.specs.ProofText.{step_line, written}
use Rattle.mk_proof.proofs.writing.push_steps.Given as goal

-- the lines so far are written
abbrev pub invariant-loop-step : goal.invariant-loop-step
invariant-loop-step l = l.out.items ≡ l.initial.out.items ++ flat_map (λ x. written (step_line x)) (take l.step-index l.steps)
