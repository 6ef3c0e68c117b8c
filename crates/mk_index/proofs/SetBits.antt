-- Bits of rows: one that is set.
use Rattle.std.proofs.Common.{ℕ, ◌≡◌, ◌<◌, ◌*◌, ◌/◌, ◌%◌, ◌^◌, ◌↔◌, ◌⊎◌, List, length, set, get_or, bit_or, bit_and, eqb, true, sym, ap, ap₂, ◌∙◌, inl, inr, arith, w64}
use Rattle.std.specs.Int.{bit_at}
use Rattle.std.proofs.lemmas.Bool.{cases_eq, eqb-true, eq-eqb}
use Rattle.std.proofs.lemmas.List.{get_or-set_same, get_or-set_other}
use Rattle.std.proofs.lemmas.Nat.Bits.{bit_at_set_same, bit_at_set_other, shr_and_one}
use Rattle.mk_index.specs.Bits.{HasBit}

-- the bits of a row in which one is set
pub set_bits : (row : List ℕ) (n k : ℕ) → n / 64 < length row
    → HasBit (set row (n / 64) (bit_or (get_or row (n / 64) 0) (1 * 2 ^ (n % 64) % 2 ^ 64))) k ↔ (HasBit row k ⊎ (k ≡ n))
set_bits row n k here =
    let old = get_or row (n / 64) 0 in
    let word = bit_or old (1 * 2 ^ (n % 64) % 2 ^ 64) in
    let new = set row (n / 64) word in
    let low : n % 64 < 64 = omega arith in
    elim (cases_eq (k / 64) (n / 64)) [
      | inl same ↦
          let at : get_or new (k / 64) 0 ≡ word = ap (λ i. get_or new i 0) same ∙ get_or-set_same row (n / 64) word 0 here in
          elim (cases_eq (k % 64) (n % 64)) [
            | inl low_same ↦
                let bit : bit_at (get_or new (k / 64) 0) (k % 64) ≡ 1 = ap₂ bit_at at low_same ∙ bit_at_set_same w64 old (n % 64) low in
                let one : k ≡ n = omega (arith, same, low_same) in
                (λ has. inr one, λ has. bit)
            | inr other ↦
                let kept : bit_at (get_or new (k / 64) 0) (k % 64) ≡ bit_at (get_or row (k / 64) 0) (k % 64) =
                ap (λ w. bit_at w (k % 64)) at ∙ bit_at_set_other w64 old (n % 64) low (k % 64) other ∙ ap (λ i. bit_at (get_or row i 0) (k % 64)) (sym same) in
                (λ has. inl (sym kept ∙ has), λ has. elim has [ inl before ↦ kept ∙ before | inr one ↦ absurd (other (ap (λ m. m % 64) one)) ])
          ]
      | inr apart ↦
          let kept : bit_at (get_or new (k / 64) 0) (k % 64) ≡ bit_at (get_or row (k / 64) 0) (k % 64) =
          ap (λ w. bit_at w (k % 64)) (get_or-set_other row (n / 64) (k / 64) word 0 apart) in
          (λ has. inl (sym kept ∙ has), λ has. elim has [ inl before ↦ kept ∙ before | inr one ↦ absurd (apart (ap (λ m. m / 64) one)) ])
    ]

-- the bit that a shift and a test find
pub bit_found : (row : List ℕ) (n : ℕ) → (eqb (bit_and (get_or row (n / 64) 0 / 2 ^ (n % 64)) 1) 1 ≡ true) ↔ HasBit row n
bit_found row n =
    let bit : bit_and (get_or row (n / 64) 0 / 2 ^ (n % 64)) 1 ≡ bit_at (get_or row (n / 64) 0) (n % 64) = shr_and_one (get_or row (n / 64) 0) (n % 64) in
    (λ yes. sym bit ∙ eqb-true _ 1 yes, λ has. eq-eqb _ 1 (bit ∙ has))
