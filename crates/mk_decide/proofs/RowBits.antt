-- Bits of rows: merged, set, and found again in the table of rows.
use Rattle.std.proofs.Common.{ℕ, ◌≡◌, ◌<◌, ◌≤◌, ◌-◌, ◌/◌, ◌%◌, ◌↔◌, ◌⊎◌, List, [], ◌∷◌, ◌++◌, length, get_or, max, bit_or, All, sym, ap, subst, ◌∙◌, inl, inr, arith}
use Rattle.std.specs.Int.{bit_at}
use Rattle.std.specs.Simd.Lanes.{zip2}
use Rattle.std.proofs.lemmas.Bool.{cases_lt, cases_eq}
use Rattle.std.proofs.lemmas.List.{get_or_past}
use Rattle.std.proofs.lemmas.List.Elements.{Contains-append_left, Contains-push, Contains-push_cases}
use Rattle.std.proofs.lemmas.Nat.Bits.{bit_at_or, bit_at-lt, bit_at-zero}
use Rattle.std.proofs.lemmas.Simd.{get_or-zip2, length-zip2}
use Rattle.mk_index.specs.Bits.{HasBit}
use Rattle.mk_decide.specs.Bits.{Gathers, IsReached, block_nodes, row_at, row_words}

-- a bit past the last word is not there
no_bit : (row : List ℕ) (n : ℕ) → length row ≤ n / 64 → HasBit row n → ⊥
no_bit row n past bit =
    let none : 0 ≡ 1 = sym (bit_at-zero (n % 64)) ∙ ap (λ word. bit_at word (n % 64)) (sym (get_or_past row (n / 64) 0 past)) ∙ bit in
    absurd (omega (arith, none))

-- a bit of the greater of two
either_one : (x y : ℕ) → x < 2 → y < 2 → max x y ≡ 1 → (x ≡ 1) ⊎ (y ≡ 1)
either_one x y small less is = elim (cases_eq x 1) [ inl one ↦ inl one | inr other ↦ inr (omega (arith, small, less, is, other)) ]

-- the bits of two rows that are merged
pub merged_bits : (xs ys : List ℕ) (n : ℕ) → length xs ≡ length ys → HasBit (zip2 bit_or xs ys) n ↔ (HasBit xs n ⊎ HasBit ys n)
merged_bits xs ys n same = elim (cases_lt (n / 64) (length xs)) [
  | inl here ↦
      let x = get_or xs (n / 64) 0 in
      let y = get_or ys (n / 64) 0 in
      let word : get_or (zip2 bit_or xs ys) (n / 64) 0 ≡ bit_or x y = get_or-zip2 bit_or xs ys (n / 64) 0 0 0 here (omega (arith, here, same)) in
      let bit : bit_at (get_or (zip2 bit_or xs ys) (n / 64) 0) (n % 64) ≡ max (bit_at x (n % 64)) (bit_at y (n % 64)) =
      ap (λ w. bit_at w (n % 64)) word ∙ bit_at_or x y (n % 64) in
      let small = bit_at-lt x (n % 64) in
      let less = bit_at-lt y (n % 64) in (
        λ has. either_one (bit_at x (n % 64)) (bit_at y (n % 64)) small less (sym bit ∙ has),
        λ has. elim has [ inl left ↦ bit ∙ omega (arith, left, less) | inr right ↦ bit ∙ omega (arith, right, small) ],
      )
  | inr past ↦ (
    λ has. absurd (no_bit (zip2 bit_or xs ys) n (omega (arith, past, length-zip2 bit_or xs ys same)) has),
    λ has. elim has [ inl left ↦ absurd (no_bit xs n past left) | inr right ↦ absurd (no_bit ys n (omega (arith, past, same)) right) ],
  )
]

-- a row of no bits
pub clear_bits : (row : List ℕ) (n : ℕ) → All (λ word. word ≡ 0) row → HasBit row n → ⊥
clear_bits row n clear has = elim (cases_lt (n / 64) (length row)) [
  | inl here ↦
      let none : 0 ≡ 1 = sym (bit_at-zero (n % 64)) ∙ ap (λ word. bit_at word (n % 64)) (sym (clear (n / 64) 0 here)) ∙ has in
      absurd (omega (arith, none))
  | inr past ↦ no_bit row n past has
]

-- a row without bits gathers no node
pub gathers_none : (first : ℕ) (done row : List ℕ) → All (λ word. word ≡ 0) row → Gathers first done [] row
gathers_none first done row clear = λ n within. (λ has. absurd (clear_bits row n clear has), λ reached. absurd (omega (arith, reached.there.1)))

reached_before : (first : ℕ) (done nodes : List ℕ) (p n : ℕ) → IsReached first done nodes n → IsReached first done (nodes ++ p ∷ []) n
reached_before first done nodes p n reached = record {
  node = reached.node;
  there = Contains-append_left nodes (p ∷ []) reached.node reached.there;
  inside = reached.inside;
  bit = reached.bit;
}

-- one node more, and the bits of its row
pub gathers_more : (first p : ℕ) (done nodes row new : List ℕ) → first ≤ p → Gathers first done nodes row
    → ((n : ℕ) → n < block_nodes → HasBit new n ↔ ((HasBit row n ⊎ HasBit (row_at row_words done p) n) ⊎ (n ≡ p - first))) → Gathers first done (nodes ++ p ∷ []) new
gathers_more first p done nodes row new inside gathers added = λ n within. (
  λ has. elim ((added n within).0 has) [
    | inl (inl before) ↦ reached_before first done nodes p n ((gathers n within).0 before)
    | inl (inr bit) ↦ record { node = p; there = Contains-push nodes p; inside = inside; bit = inr bit }
    | inr one ↦ record { node = p; there = Contains-push nodes p; inside = inside; bit = inl (omega (arith, one, inside)) }
  ],
  λ reached. elim (Contains-push_cases nodes p reached.node reached.there) [
    | inl before ↦ (added n within).1 (inl (inl ((gathers n within).1 (record { node = reached.node; there = before; inside = reached.inside; bit = reached.bit }))))
    | inr last ↦ elim reached.bit [
      | inl one ↦ (added n within).1 (inr (omega (arith, one, last)))
      | inr bit ↦ (added n within).1 (inl (inr (subst (λ x. HasBit (row_at row_words done x) n) (sym last) bit)))
    ]
  ],
)

-- a node in front of the block adds nothing
pub gathers_same : (first p : ℕ) (done nodes row : List ℕ) → p < first → Gathers first done nodes row → Gathers first done (nodes ++ p ∷ []) row
gathers_same first p done nodes row before gathers = λ n within. (
  λ has. reached_before first done nodes p n ((gathers n within).0 has),
  λ reached. elim (Contains-push_cases nodes p reached.node reached.there) [
    | inl there ↦ (gathers n within).1 (record { node = reached.node; there = there; inside = reached.inside; bit = reached.bit })
    | inr last ↦ let inside = reached.inside in absurd (omega (arith, last, inside, before))
  ],
)
