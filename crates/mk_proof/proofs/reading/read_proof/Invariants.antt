use Rattle.std.proofs.Common.{length}
use Rattle.mk_proof.proofs.ReadLines.{ReadsTo}
use Rattle.mk_proof.proofs.reading.read_proof.Given as goal

-- the lines so far are good
abbrev pub invariant-lines : goal.invariant-lines
invariant-lines l = ReadsTo l.text l.good l.rest l.draft

abbrev pub decreases-lines : goal.decreases-lines
decreases-lines l = length l.rest
