use Rattle.std.proofs.Common.{ℕ, ◌≡◌, ◌<◌, ◌↔◌, ◌⊎◌, ◌-◌}
use Rattle.std.specs.List.{Contains}
use Rattle.mk_index.specs.Bits.{HasBit}
use Rattle.mk_decide.proofs.neighbours.push_alone.Given as goal

-- the pairs of the bits so far are there
abbrev pub invariant-loop-b : goal.invariant-loop-b
invariant-loop-b l = (x y : ℕ) → Contains l.pairs.items (x, y)
    ↔ (Contains l.fn.pairs.items (x, y) ⊎ ((x ≡ l.a) × (y < l.from) × HasBit l.row y × ¬ HasBit l.between y))

abbrev pub decreases-loop-b : goal.decreases-loop-b
decreases-loop-b l = 20032 - l.from
