use Rattle.std.proofs.Common.{ℕ, ◌↔◌, ◌⊎◌, take, Contains}
use Rattle.mk_index.specs.Bits.{HasBit}
use Rattle.mk_index.proofs.marks.mark.Given as goal

-- the numbers so far are marked
abbrev pub invariant-loop-n : goal.invariant-loop-n
invariant-loop-n l = (a : ℕ) → HasBit l.row a ↔ (HasBit l.fn.row a ⊎ Contains (take l.n-index l.nodes) a)
