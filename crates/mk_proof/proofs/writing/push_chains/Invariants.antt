use Rattle.std.proofs.Common.{◌≡◌, ◌++◌, take}
use Rattle.std.specs.List.{flat_map}
use Rattle.mk_proof.specs.ProofText.{chain_line, written}
use Rattle.mk_proof.proofs.writing.push_chains.Given as goal

-- the lines so far are written
abbrev pub invariant-loop-number : goal.invariant-loop-number
invariant-loop-number l = l.out.items ≡ l.initial.out.items ++ flat_map (λ x. written (chain_line x)) (take l.number l.certificate)
