use Rattle.std.proofs.Common.{length}
use Rattle.mk_proof.proofs.Found.{ReadsWords}
use Rattle.mk_proof.proofs.number.numbers.Given as goal

-- the numbers so far are those of the words before the rest
abbrev pub invariant-words : goal.invariant-words
invariant-words l = ReadsWords l.text l.rest l.numbers.items

abbrev pub decreases-words : goal.decreases-words
decreases-words l = length l.rest
