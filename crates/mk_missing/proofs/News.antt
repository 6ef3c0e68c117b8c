-- A row that gains the news of one node after another.
use Rattle.std.proofs.Common.{ℕ, ◌≡◌, ◌↔◌, ◌⊎◌, ◌&&◌, Bool, true, false, List, [], ◌∷◌, ◌++◌, length, bit_or, sym, subst, ◌∙◌, inl, inr, arith}
use Rattle.std.specs.Simd.Lanes.{zip2}
use Rattle.std.proofs.lemmas.Bool.{and_from, and_parts, both_ways, cases_Bool}
use Rattle.std.proofs.lemmas.List.Elements.{Contains-append_left, Contains-push, Contains-push_cases}
use Rattle.mk_index.specs.Bits.{HasBit}
use Rattle.mk_decide.specs.Bits.{row_at}
use Rattle.mk_decide.proofs.RowBits.{merged_bits}
use Rattle.mk_jobs.specs.Jobs.{Jobs}
use Rattle.mk_missing.specs.Watching.{makes_own}
use Rattle.mk_missing.specs.Hearing.{IsNews}

-- the row has these bits, and the news of these nodes
abbrev pub Gains : Jobs → ℕ → List ℕ → Bool → List ℕ → List ℕ → List ℕ → Type 0
Gains jobs width done carries nodes old row = (k : ℕ) → HasBit row k ↔ (HasBit old k ⊎ IsNews jobs width done carries nodes k)

pub gains_none : (jobs : Jobs) (width : ℕ) (done : List ℕ) (carries : Bool) (row : List ℕ) → Gains jobs width done carries [] row row
gains_none jobs width done carries row = λ k. (λ has. inl has, λ has. elim has [ inl old ↦ old | inr news ↦ absurd (omega (arith, news.there.1)) ])

-- the bits of a row with one that is set, and others that are merged
pub merged_one : (row set new part : List ℕ) (p : ℕ) → ((k : ℕ) → HasBit set k ↔ (HasBit row k ⊎ (k ≡ p))) → new ≡ zip2 bit_or set part → length set ≡ length part
    → (k : ℕ) → HasBit new k ↔ (HasBit row k ⊎ ((k ≡ p) ⊎ HasBit part k))
merged_one row set new part p bits is same k =
    let both : HasBit new k ↔ (HasBit set k ⊎ HasBit part k) =
    subst (λ (ws : List ℕ). HasBit ws k ↔ (HasBit set k ⊎ HasBit part k)) (sym is) (merged_bits set part k same) in (
      λ has. elim (both.0 has) [
        | inl there ↦ elim ((bits k).0 there) [ inl old ↦ inl old | inr one ↦ inr (inl one) ]
        | inr bit ↦ inr (inr bit)
      ],
      λ has. elim has [
        | inl old ↦ both.1 (inl ((bits k).1 (inl old)))
        | inr more ↦ elim more [ inl one ↦ both.1 (inl ((bits k).1 (inr one))) | inr bit ↦ both.1 (inr bit) ]
      ],
    )

module _ (jobs : Jobs) (width : ℕ) (done : List ℕ) (carries : Bool) (nodes old row : List ℕ) (p : ℕ) (gains : Gains jobs width done carries nodes old row) where
  earlier : (k : ℕ) → IsNews jobs width done carries nodes k → IsNews jobs width done carries (nodes ++ p ∷ []) k
  earlier k news = record { node = news.node; there = Contains-append_left nodes (p ∷ []) news.node news.there; bit = news.bit }

  -- a node whose bit is set, and whose row is merged
  pub gains_merged : (new : List ℕ) → carries ≡ true → makes_own jobs p ≡ true → ((k : ℕ) → HasBit new k ↔ (HasBit row k ⊎ ((k ≡ p) ⊎ HasBit (row_at width done p) k)))
      → Gains jobs width done carries (nodes ++ p ∷ []) old new
  gains_merged new on makes set = λ k. (
    λ has. elim ((set k).0 has) [
      | inl before ↦ elim ((gains k).0 before) [ inl first ↦ inl first | inr news ↦ inr (earlier k news) ]
      | inr more ↦ inr (record { node = p; there = Contains-push nodes p; bit = elim more [ inl one ↦ inl one | inr bit ↦ inr (on, makes, bit) ] })
    ],
    λ has. elim has [
      | inl first ↦ (set k).1 (inl ((gains k).1 (inl first)))
      | inr news ↦ elim (Contains-push_cases nodes p news.node news.there) [
        | inl before ↦ (set k).1 (inl ((gains k).1 (inr (record { node = news.node; there = before; bit = news.bit }))))
        | inr last ↦ elim news.bit [
          | inl one ↦ (set k).1 (inr (inl (one ∙ sym last)))
          | inr more ↦ (set k).1 (inr (inr (subst (λ x. HasBit (row_at width done x) k) (sym last) more.2)))
        ]
      ]
    ],
  )

  -- a node that is set alone
  pub gains_set : (new : List ℕ) → (carries && makes_own jobs p ≡ false) → ((k : ℕ) → HasBit new k ↔ (HasBit row k ⊎ (k ≡ p))) → Gains jobs width done carries (nodes ++ p ∷ []) old new
  gains_set new off set = λ k. (
    λ has. elim ((set k).0 has) [
      | inl before ↦ elim ((gains k).0 before) [ inl first ↦ inl first | inr news ↦ inr (earlier k news) ]
      | inr one ↦ inr (record { node = p; there = Contains-push nodes p; bit = inl one })
    ],
    λ has. elim has [
      | inl first ↦ (set k).1 (inl ((gains k).1 (inl first)))
      | inr news ↦ elim (Contains-push_cases nodes p news.node news.there) [
        | inl before ↦ (set k).1 (inl ((gains k).1 (inr (record { node = news.node; there = before; bit = news.bit }))))
        | inr last ↦ elim news.bit [
          | inl one ↦ (set k).1 (inr (one ∙ sym last))
          | inr more ↦ absurd (both_ways (carries && makes_own jobs p) off (and_from carries (makes_own jobs p) more.0 (subst (λ x. makes_own jobs x ≡ true) (sym last) more.1)))
        ]
      ]
    ],
  )

  -- a node by what is carried on
  pub gains_more : (new : List ℕ) (on : Bool) → on ≡ (carries && makes_own jobs p) → (on ≡ true → (k : ℕ) → HasBit new k ↔ (HasBit row k ⊎ ((k ≡ p) ⊎ HasBit (row_at width done p) k)))
      → (on ≡ false → (k : ℕ) → HasBit new k ↔ (HasBit row k ⊎ (k ≡ p))) → Gains jobs width done carries (nodes ++ p ∷ []) old new
  gains_more new on is so nay = elim (cases_Bool on) [
    | inl up ↦ let parts = and_parts carries (makes_own jobs p) (sym is ∙ up) in gains_merged new parts.0 parts.1 (so up)
    | inr down ↦ gains_set new (sym is ∙ down) (nay down)
  ]
