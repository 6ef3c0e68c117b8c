use Rattle.std.proofs.Common.{ℕ, ◌≢◌, ◌<◌, ◌/◌}
use Rattle.mk_index.specs.Bits.{HasBit}
use Rattle.mk_cert.specs.Pairs.{IsPaired}
use Rattle.mk_cert.proofs.pairs.are_paired.Given as goal

abbrev pub invariant-loop-place : goal.invariant-loop-place
invariant-loop-place l = (a : ℕ) → a / 64 < l.place → a ≢ l.b → HasBit l.row a → IsPaired l.certificate a l.b
