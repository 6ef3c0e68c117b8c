use Rattle.std.proofs.Common.{ℕ, ◌↔◌, ◌⊎◌, Contains, take}
use Rattle.mk_index.specs.Bits.{HasBit}
use Rattle.mk_fix.proofs.fix.set_bits.Given as goal

-- the bits of the nodes so far are set
abbrev pub invariant-loop-p : goal.invariant-loop-p
invariant-loop-p l = (n : ℕ) → HasBit l.row n ↔ (HasBit l.initial.row n ⊎ Contains (take l.p-index l.nodes) n)
