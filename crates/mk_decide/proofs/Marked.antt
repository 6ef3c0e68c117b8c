-- Rows that are looked through bit by bit.
use Rattle.std.proofs.Common.{ℕ, ◌≡◌, ◌<◌, ◌≤◌, ◌*◌, ◌+◌, ◌/◌, ◌%◌, ◌↔◌, ◌⊎◌, List, All, length, get_or, replicate, refl, sym, ap, subst, ◌∙◌, inl, inr, arith}
use Rattle.std.specs.Int.{bit_at}
use Rattle.std.proofs.lemmas.List.{get_or_past}
use Rattle.std.proofs.lemmas.Nat.Bits.{bit_at-zero}
use Rattle.std.proofs.lemmas.List.Elements.{All-replicate}
use Rattle.mk_index.specs.Bits.{HasBit}
use Rattle.mk_decide.proofs.RowBits.{clear_bits}

-- no bit stands in a word that is zero
pub no_bit_in : (row : List ℕ) (n k : ℕ) → get_or row (n / 64) 0 ≡ 0 → n ≤ k → k < (n / 64 + 1) * 64 → HasBit row k → ⊥
no_bit_in row n k nought from below bit =
    let same : k / 64 ≡ n / 64 = omega arith in
    let none : 0 ≡ 1 = sym (bit_at-zero (k % 64)) ∙ ap (λ w. bit_at w (k % 64)) (sym (ap (λ i. get_or row i 0) same ∙ nought)) ∙ bit in
    absurd (omega (arith, none))

-- nor past the last word
pub no_bit_past : (row : List ℕ) (k : ℕ) → length row ≤ k / 64 → HasBit row k → ⊥
no_bit_past row k past bit =
    let none : 0 ≡ 1 = sym (bit_at-zero (k % 64)) ∙ ap (λ w. bit_at w (k % 64)) (sym (get_or_past row (k / 64) 0 past)) ∙ bit in
    absurd (omega (arith, none))

-- the marks of a fresh row
pub marks_reach : {P : ℕ → Type 0} (count : ℕ) (fresh row : List ℕ) → fresh ≡ replicate count 0
    → ((a : ℕ) → HasBit row a ↔ (HasBit fresh a ⊎ P a)) → (a : ℕ) → HasBit row a ↔ P a
marks_reach {P} count fresh row is marked a = (
  λ bit. elim ((marked a).0 bit) [
    | inl old ↦ absurd (clear_bits fresh a (subst (All (λ (word : ℕ). word ≡ 0)) (sym is) (All-replicate (λ (word : ℕ). word ≡ 0) count 0 refl)) old)
    | inr there ↦ there
  ],
  λ there. (marked a).1 (inr there),
)
