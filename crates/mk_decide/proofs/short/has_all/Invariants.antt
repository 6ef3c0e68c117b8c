use Rattle.std.proofs.Common.{ℕ, ◌<◌, get_or}
use Rattle.mk_cert.specs.Certificates.{IsAtEnds}
use Rattle.mk_decide.proofs.short.has_all.Given as goal

-- the pairs so far are the ends of chains
abbrev pub invariant-loop-i : goal.invariant-loop-i
invariant-loop-i l = (k : ℕ) → k < l.i → (d : ℕ × ℕ) → IsAtEnds l.certificate (get_or l.pairs k d).0 (get_or l.pairs k d).1
