use Rattle.std.proofs.Common.{ℕ, ◌≡◌, ◌↔◌, ◌⊎◌, List, bit_or, length, sym, subst, inl, inr, arith}
use Rattle.std.specs.Simd.Lanes.{zip2}
use Rattle.mk_index.specs.Bits.{HasBit}
use Rattle.mk_decide.proofs.RowBits.{merged_bits}
use Rattle.mk_decide.proofs.rows.add_node.Goals as goal

-- the bits of the merged row
both : (row other new : List ℕ) (n : ℕ) → new ≡ zip2 bit_or row other → length row ≡ length other → HasBit new n ↔ (HasBit row n ⊎ HasBit other n)
both row other new n is same = subst (λ (ws : List ℕ). HasBit ws n ↔ (HasBit row n ⊎ HasBit other n)) (sym is) (merged_bits row other n same)

pub returns-then-number-lt-BLOCK_NODES : goal.returns-then-number-lt-BLOCK_NODES
returns-then-number-lt-BLOCK_NODES c = λ n within.
    let merged = both c.args.row.now c.args.other.now c.merge.new.into n c.merge.ensures (omega arith) in
    let set = c.set_bit.ensures n in (
      λ has. elim (set.0 has) [ inl before ↦ inl (merged.0 before) | inr one ↦ inr one ],
      λ has. elim has [ inl before ↦ set.1 (inl (merged.1 before)) | inr one ↦ set.1 (inr one) ],
    )

pub returns-else-number-lt-BLOCK_NODES : goal.returns-else-number-lt-BLOCK_NODES
returns-else-number-lt-BLOCK_NODES c = λ n within.
    let merged = both c.args.row.now c.args.other.now c.merge.new.into n c.merge.ensures (omega arith) in (
      λ has. inl (merged.0 has),
      λ has. elim has [ inl before ↦ merged.1 before | inr one ↦ absurd (omega (arith, one, within, c.if-number-lt-BLOCK_NODES.false)) ],
    )
