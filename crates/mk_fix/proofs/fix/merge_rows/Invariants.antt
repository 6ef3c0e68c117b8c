use Rattle.std.proofs.Common.{ℕ, ◌↔◌, ◌⊎◌, length, take}
use Rattle.mk_index.specs.Bits.{HasBit}
use Rattle.mk_fix.specs.Musts.{IsBehind}
use Rattle.mk_fix.proofs.fix.merge_rows.Given as goal

-- the bits of the rows so far are added
abbrev pub invariant-loop-p : goal.invariant-loop-p
invariant-loop-p l = (n : ℕ) → HasBit l.row n ↔ (HasBit l.initial.row n ⊎ IsBehind (length l.initial.row) l.done (take l.p-index l.nodes) n)
