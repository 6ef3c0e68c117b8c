-- The table of rows, filled in rising number.
use Rattle.std.proofs.Common.{ℕ, suc, ◌≡◌, ◌<◌, ◌≤◌, ◌+◌, ◌*◌, ◌↔◌, ◌⊎◌, List, ◌++◌, length, take, drop, sym, ap, subst, ◌∙◌, inl, inr, arith, add-one, suc-mul}
use Rattle.std.proofs.lemmas.Bool.{cases_order}
use Rattle.std.proofs.lemmas.List.{take_at, drop_at, take-append-le, drop-append-le, drop-drop, length-drop}
use Rattle.std.proofs.lemmas.Nat.{mul-le}
use Rattle.mk_jobs.specs.Jobs.{Jobs, Before, IsValid, prerequisites_of, node_count}
use Rattle.mk_index.specs.Bits.{HasBit}
use Rattle.mk_decide.specs.Bits.{AreRows, Gathers, block_nodes, row_at, row_words}
use Rattle.mk_decide.proofs.Edges.{prerequisite_from, before_from}
use Rattle.mk_decide.proofs.Choosing.{from_not_less}

-- a row ends before those behind it begin
pub row_ends : (x b width : ℕ) → x < b → x * width + width ≤ b * width
row_ends x b width below = let most = mul-le (suc x) width b width below (omega arith) in omega (arith, most, suc-mul x width)

-- a row among the first of some words
pub row-append : (width x b : ℕ) (done rest : List ℕ) → length done ≡ b * width → x < b → row_at width (done ++ rest) x ≡ row_at width done x
row-append width x b done rest long below =
    let ends = row_ends x b width below in
    ap (take width) (drop-append-le (x * width) done rest (omega (arith, ends, long)))
    ∙ take-append-le width (drop (x * width) done) rest (omega (arith, ends, long, length-drop (x * width) done))

-- the row behind them
row_here : (width b : ℕ) (done row tail : List ℕ) → length done ≡ b * width → length row ≡ width → row_at width (done ++ (row ++ tail)) b ≡ row
row_here width b done row tail long wide = ap (take width) (drop_at done (row ++ tail) (b * width) long) ∙ take_at row tail width wide

-- the bits of a row that gathered the prerequisites
row_is : (jobs : Jobs) (first b n : ℕ) (done rest row : List ℕ) → IsValid jobs → length done ≡ b * row_words → AreRows jobs first (done ++ rest) b
    → Gathers first done (prerequisites_of jobs b) row → n < block_nodes → HasBit row n ↔ Before jobs (first + n) b
row_is jobs first b n done rest row valid long rows gathers within =
    let same : (p : ℕ) → p < b → row_at row_words (done ++ rest) p ≡ row_at row_words done p = λ p below. row-append row_words p b done rest long below in (
      λ has.
          let reached = (gathers n within).0 has in
          let below = valid.smaller b reached.node reached.there in
          elim reached.bit [
            | inl one ↦ before_from jobs (first + n) reached.node b reached.there (inl (sym one))
            | inr bit ↦ before_from jobs (first + n) reached.node b reached.there
                (inr ((rows reached.node below n within).0 (subst (λ (ws : List ℕ). HasBit ws n) (sym (same reached.node below)) bit)))
          ],
      λ before.
          let last = prerequisite_from jobs (first + n) b before in
          let below = valid.smaller b last.node last.edge in
          let far = from_not_less jobs (first + n) last.node valid last.from in
          let bit : (first + n ≡ last.node) ⊎ HasBit (row_at row_words done last.node) n = elim last.from [
            | inl one ↦ inl (sym one)
            | inr before' ↦ inr (subst (λ (ws : List ℕ). HasBit ws n) (same last.node below) ((rows last.node below n within).1 before'))
          ] in
          (gathers n within).1 (record { node = last.node; there = last.edge; inside = omega (arith, far); bit = bit }),
    )

-- one row more
pub rows_more : (jobs : Jobs) (first b : ℕ) (done rest row tail : List ℕ) → IsValid jobs → length done ≡ b * row_words → length row ≡ row_words
    → AreRows jobs first (done ++ rest) b → Gathers first done (prerequisites_of jobs b) row → AreRows jobs first (done ++ (row ++ tail)) (b + 1)
rows_more jobs first b done rest row tail valid long wide rows gathers = λ x below n within. elim (cases_order x b) [
  | inl same ↦ subst (λ y. HasBit (row_at row_words (done ++ (row ++ tail)) y) n ↔ Before jobs (first + n) y) (sym same)
      (subst (λ (ws : List ℕ). HasBit ws n ↔ Before jobs (first + n) b) (sym (row_here row_words b done row tail long wide)) (row_is jobs first b n done rest row valid long rows gathers within))
  | inr (inl less) ↦ subst (λ (ws : List ℕ). HasBit ws n ↔ Before jobs (first + n) x)
      (row-append row_words x b done rest long less ∙ sym (row-append row_words x b done (row ++ tail) long less)) (rows x less n within)
  | inr (inr more) ↦ absurd (omega (arith, below, more))
]

-- what lies behind that row
pub drop_row : (width b : ℕ) (done row tail : List ℕ) → length done ≡ b * width → length row ≡ width → drop ((b + 1) * width) (done ++ (row ++ tail)) ≡ tail
drop_row width b done row tail long wide =
    let more : (b + 1) * width ≡ b * width + width = ap (λ k. k * width) (add-one b) ∙ suc-mul b width in
    ap (λ k. drop k (done ++ (row ++ tail))) more ∙ sym (drop-drop width (b * width) (done ++ (row ++ tail)))
    ∙ ap (drop width) (drop_at done (row ++ tail) (b * width) long) ∙ drop_at row tail width wide

-- the bit that answers
pub row_answers : (jobs : Jobs) (first : ℕ) (words : List ℕ) (a b n : ℕ) → AreRows jobs first words (node_count jobs) → b < node_count jobs
    → n < block_nodes → first + n ≡ a → HasBit (row_at row_words words b) n ↔ Before jobs a b
row_answers jobs first words a b n rows second within is = subst (λ x. HasBit (row_at row_words words b) n ↔ Before jobs x b) is (rows b second n within)
