use Rattle.std.proofs.Common.{ℕ, ◌≡◌, ◌≢◌, ◌<◌, ◌+◌, ◌*◌}
use Rattle.mk_index.specs.Bits.{HasBit}
use Rattle.mk_cert.specs.Pairs.{IsPaired}
use Rattle.mk_cert.proofs.pairs.is_word_paired.Given as goal

abbrev pub invariant-loop-bit : goal.invariant-loop-bit
invariant-loop-bit l = (a k : ℕ) → k < l.bit → a ≡ 64 * l.place + k → a ≢ l.b → HasBit l.row a → IsPaired l.certificate a l.b
