use Rattle.mk_proof.proofs.Found.{ReadsDigits}
use Rattle.mk_proof.proofs.number.number.Given as goal

-- the digits so far make this number
abbrev pub invariant-loop-byte : goal.invariant-loop-byte
invariant-loop-byte l = ReadsDigits l.text l.byte-index l.number
