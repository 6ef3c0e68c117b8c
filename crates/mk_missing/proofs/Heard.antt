-- Of which nodes a node hears, and who carries to it.
use Rattle.std.proofs.Common.{ℕ, ◌≡◌, ◌<◌, ◌+◌, ◌*◌, ◌&&◌, ◌↔◌, ◌⊎◌, Bool, true, false, List, ◌++◌, length, take, All, refl, sym, ap, subst, ◌∙◌, inl, inr, arith}
use Rattle.std.proofs.lemmas.Bool.{and_from, and_parts, both_ways, cases_order}
use Rattle.std.proofs.lemmas.List.{take_at, drop_at}
use Rattle.mk_index.specs.Bits.{HasBit}
use Rattle.mk_jobs.specs.Jobs.{Jobs, IsPrerequisite, IsValid, is_live, node_count, prerequisites_of}
use Rattle.mk_jobs.proofs.JobsLemmas.{writer_live}
use Rattle.mk_decide.specs.Bits.{row_at}
use Rattle.mk_decide.proofs.Filling.{row-append}
use Rattle.mk_decide.proofs.RowBits.{clear_bits}
use Rattle.mk_missing.specs.Watching.{Carries, edge, further, makes_own}
use Rattle.mk_missing.specs.Hearing.{AreHeard, Hears, IsFilled, itself, carried, IsNews}

module _ (jobs : Jobs) where
  pub own_live : (n : ℕ) → makes_own jobs n ≡ true → is_live jobs n ≡ true
  own_live n makes = writer_live jobs n _ makes

  -- who carries to one that carries to n carries to n
  carried_on : {m j n : ℕ} → Carries jobs m j → Carries jobs j n → Carries jobs m n
  carried_on first (edge live step makes) = further first live step makes
  carried_on first (further way live step makes) = further (carried_on first way) live step makes

  carries_live : {m n : ℕ} → Carries jobs m n → is_live jobs n ≡ true
  carries_live (edge live step makes) = live
  carries_live (further way live step makes) = live

  carries_own : {m n : ℕ} → Carries jobs m n → makes_own jobs m ≡ true
  carries_own (edge live step makes) = makes
  carries_own (further way live step makes) = carries_own way

  -- a node hears of who carries to it
  carries_heard : {m n : ℕ} → Carries jobs m n → Hears jobs m n
  carries_heard (edge live step makes) = itself step
  carries_heard (further {k = k} way live step makes) = elim (carries_heard way) [
    | itself first ↦ carried (own_live k makes) first (edge live step makes)
    | carried old first rest ↦ carried old first (further rest live step makes)
  ]

  heard_carries : {m n : ℕ} → is_live jobs n ≡ true → makes_own jobs m ≡ true → Hears jobs m n → Carries jobs m n
  heard_carries live makes (itself step) = edge live step makes
  heard_carries live makes (carried old step way) = carried_on (edge old step makes) way

  -- m carries to n just where n is live, m makes its own file, and n hears of m
  pub carries_then : (m n : ℕ) (open_ test : Bool) → open_ ≡ (is_live jobs n && makes_own jobs m) → open_ ≡ true → (test ≡ true) ↔ Hears jobs m n → (test ≡ true) ↔ Carries jobs m n
  carries_then m n open_ test is so heard =
      let parts = and_parts (is_live jobs n) (makes_own jobs m) (sym is ∙ so) in
      (λ all. heard_carries parts.0 parts.1 (heard.0 all), λ way. heard.1 (carries_heard way))

  pub carries_else : (m n : ℕ) (open_ : Bool) → open_ ≡ (is_live jobs n && makes_own jobs m) → open_ ≡ false → (open_ ≡ true) ↔ Carries jobs m n
  carries_else m n open_ is nay = (
    λ so. absurd (both_ways open_ nay so),
    λ way. is ∙ and_from (is_live jobs n) (makes_own jobs m) (carries_live way) (carries_own way),
  )

  -- what a node hears comes by one of its prerequisites
  pub record By (k n : ℕ) : Type 0 where
    pub node : ℕ
    pub step : IsPrerequisite jobs node n
    pub bit : (k ≡ node) ⊎ ((is_live jobs n ≡ true) × (makes_own jobs node ≡ true) × Hears jobs k node)

  by_carried : (k n j : ℕ) → is_live jobs j ≡ true → IsPrerequisite jobs k j → Carries jobs j n → By k n
  by_carried k n j old step (edge live last makes) = record { node = j; step = last; bit = inr (live, makes, itself step) }
  by_carried k n j old step (further {k = i} way live last makes) = record { node = i; step = last; bit = inr (live, makes, carried old step way) }

  pub heard_by : (k n : ℕ) → Hears jobs k n → By k n
  heard_by k n (itself step) = record { node = k; step = step; bit = inl refl }
  heard_by k n (carried {j = j} old step way) = by_carried k n j old step way

  pub by_heard : (k n : ℕ) → By k n → Hears jobs k n
  by_heard k n by = elim by.bit [
    | inl same ↦ itself (subst (λ p. IsPrerequisite jobs p n) (sym same) by.step)
    | inr news ↦ elim news.2 [
      | itself step ↦ carried (own_live by.node news.1) step (edge news.0 by.step news.1)
      | carried old step way ↦ carried old step (further way news.0 by.step news.1)
    ]
  ]

-- the row behind some words
row_here : (width b : ℕ) (done row tail : List ℕ) → length done ≡ b * width → length row ≡ width → row_at width (done ++ (row ++ tail)) b ≡ row
row_here width b done row tail long wide = ap (take width) (drop_at done (row ++ tail) (b * width) long) ∙ take_at row tail width wide

-- the bits of a row that gained the news of the prerequisites
row_is : (jobs : Jobs) (width n k : ℕ) (done rest clear row : List ℕ) → IsValid jobs → length done ≡ n * width → AreHeard jobs width (done ++ rest) n
    → All (λ word. word ≡ 0) clear → ((k : ℕ) → HasBit row k ↔ (HasBit clear k ⊎ IsNews jobs width done (is_live jobs n) (prerequisites_of jobs n) k)) → HasBit row k ↔ Hears jobs k n
row_is jobs width n k done rest clear row valid long rows none gains =
    let same : (p : ℕ) → p < n → row_at width (done ++ rest) p ≡ row_at width done p = λ p below. row-append width p n done rest long below in (
      λ has. elim ((gains k).0 has) [
        | inl old ↦ absurd (clear_bits clear k none old)
        | inr news ↦
            let below = valid.smaller n news.node news.there in
            by_heard jobs k n (record {
              node = news.node;
              step = news.there;
              bit = elim news.bit [
                | inl one ↦ inl one
                | inr more ↦ inr (more.0, more.1, (rows news.node below k).0 (subst (λ (ws : List ℕ). HasBit ws k) (sym (same news.node below)) more.2))
              ];
            })
      ],
      λ heard.
          let by = heard_by jobs k n heard in
          let below = valid.smaller n by.node by.step in
          (gains k).1 (inr (record {
            node = by.node;
            there = by.step;
            bit = elim by.bit [
              | inl one ↦ inl one
              | inr more ↦ inr (more.0, more.1, subst (λ (ws : List ℕ). HasBit ws k) (same by.node below) ((rows by.node below k).1 more.2))
            ];
          })),
    )

-- one row more
pub heard_more : (jobs : Jobs) (width n : ℕ) (done rest clear row tail : List ℕ) → IsValid jobs → length done ≡ n * width → length row ≡ width
    → AreHeard jobs width (done ++ rest) n → All (λ word. word ≡ 0) clear
    → ((k : ℕ) → HasBit row k ↔ (HasBit clear k ⊎ IsNews jobs width done (is_live jobs n) (prerequisites_of jobs n) k))
    → AreHeard jobs width (done ++ (row ++ tail)) (n + 1)
heard_more jobs width n done rest clear row tail valid long wide rows none gains = λ x below k. elim (cases_order x n) [
  | inl same ↦ subst (λ y. HasBit (row_at width (done ++ (row ++ tail)) y) k ↔ Hears jobs k y) (sym same)
      (subst (λ (ws : List ℕ). HasBit ws k ↔ Hears jobs k n) (sym (row_here width n done row tail long wide)) (row_is jobs width n k done rest clear row valid long rows none gains))
  | inr (inl less) ↦ subst (λ (ws : List ℕ). HasBit ws k ↔ Hears jobs k x)
      (row-append width x n done rest long less ∙ sym (row-append width x n done (row ++ tail) long less)) (rows x less k)
  | inr (inr more) ↦ absurd (omega (arith, below, more))
]

-- a node's bit in the row of another
pub hears_is : (jobs : Jobs) (width : ℕ) (words row : List ℕ) (k n : ℕ) (test : Bool) → IsFilled jobs width words → n < node_count jobs → row ≡ row_at width words n
    → (test ≡ true) ↔ HasBit row k → (test ≡ true) ↔ Hears jobs k n
hears_is jobs width words row k n test filled inside is bit =
    let at = filled.rows n inside k in (
      λ so. at.0 (subst (λ (ws : List ℕ). HasBit ws k) is (bit.0 so)),
      λ heard. bit.1 (subst (λ (ws : List ℕ). HasBit ws k) (sym is) (at.1 heard)),
    )
