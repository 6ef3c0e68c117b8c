use Rattle.std.proofs.Common.{ℕ, ◌↔◌, ◌-◌}
use Rattle.mk_index.specs.Bits.{HasBit}
use Rattle.mk_decide.proofs.Sweeping.{LeadsBelow}
use Rattle.mk_decide.proofs.neighbours.leading_on.Given as goal

-- the bits are those of the nodes so far
abbrev pub invariant-loop-c : goal.invariant-loop-c
invariant-loop-c l = (b : ℕ) → HasBit l.between b ↔ LeadsBelow l.table l.a l.from b

abbrev pub decreases-loop-c : goal.decreases-loop-c
decreases-loop-c l = 20032 - l.from
