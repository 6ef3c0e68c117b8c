use Rattle.std.proofs.Common.{◌≡◌, ◌++◌, take}
use Rattle.std.specs.List.{flat_map}
use Rattle.mk_proof.specs.ProofText.{time_line, written}
use Rattle.mk_proof.proofs.writing.push_times.Given as goal

-- the lines so far are written
abbrev pub invariant-loop-timed : goal.invariant-loop-timed
invariant-loop-timed l = l.out.items ≡ l.initial.out.items ++ flat_map (λ x. written (time_line x)) (take l.timed-index l.times)
