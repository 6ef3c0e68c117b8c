use Rattle.std.proofs.Common.{ℕ, ◌<◌, ◌≤◌, ◌*◌, ◌+◌, ◌-◌, length}
use Rattle.mk_index.specs.Bits.{HasBit}
use Rattle.mk_decide.proofs.marks.next_bit.Given as goal

-- no bit was passed
abbrev pub invariant-loop-n : goal.invariant-loop-n
invariant-loop-n l = (l.from ≤ l.n) × ((k : ℕ) → l.from ≤ k → k < l.n → HasBit l.row k → ⊥)

abbrev pub decreases-loop-n : goal.decreases-loop-n
decreases-loop-n l = 64 * length l.row + 64 - l.n
