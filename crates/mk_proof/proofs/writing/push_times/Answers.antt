use Rattle.std.proofs.Common.{◌++◌, List, ℕ, ap, ◌∙◌}
use Rattle.std.proofs.lemmas.List.{take_all}
use Rattle.std.specs.List.{flat_map}
use Rattle.mk_proof.specs.ProofText.{time_line, written}
use Rattle.mk_proof.proofs.Written.{flat_map-map}
use Rattle.mk_proof.proofs.writing.push_times.Goals as goal

pub returns : goal.returns
returns c =
    c.loop-timed.invariant
    ∙ ap (λ (t : List ℕ). c.args.out.now.items ++ t)
    (ap (flat_map (λ x. written (time_line x))) (take_all c.loop-timed.timed-index c.args.times.now c.loop-timed-test.false) ∙ flat_map-map time_line c.args.times.now)
