-- Numbers with the nodes that hold them.
use Rattle.std.proofs.Common.{ℕ, ◌≡◌, ◌<◌, ◌≤◌, ◌+◌, ◌-◌, ◌↔◌, List, [], ◌∷◌, ◌++◌, length, get_or, take, drop, map, Contains, Result, Ok, Err, IfOk, refl, sym, ap, ap₂, subst, ◌∙◌, inl, inr, arith}
use Rattle.std.specs.List.Sorted.{IsNonDecreasingBy, IsPermutation}
use Rattle.std.proofs.lemmas.Bool.{cases_lt, cases_order}
use Rattle.std.proofs.lemmas.List.{get_or-map, length-map, get_or-take, get_or-drop, length-take-le, length-drop, length_push, get_or_push, get_or_append_left, get_or_past}
use Rattle.std.proofs.lemmas.List.Elements.{Contains-append_left, Contains-append_right, Contains-append_cases}
use Rattle.std.proofs.lemmas.List.Sorted.{Contains-permutation, IsPermutation-sym}
use Rattle.mk_index.specs.Holders.{AreFirsts, ArePairs, IsRun}
use Rattle.mk_index.specs.Table.{row_of}

-- the pairs before a place have smaller numbers, and no other
pub record IsBegun (pairs : List (ℕ × ℕ)) (start t : ℕ) : Type 0 where
  pub within : start ≤ length pairs
  pub less : (k : ℕ) (d : ℕ × ℕ) → k < start → (get_or pairs k d).0 < t
  pub most : (k : ℕ) (d : ℕ × ℕ) → start ≤ k → k < length pairs → t ≤ (get_or pairs k d).0

pub begun_none : (pairs : List (ℕ × ℕ)) → IsBegun pairs 0 0
begun_none pairs = record { within = omega arith; less = λ k d below. absurd (omega arith); most = λ k d start below. omega arith }

-- the pairs of one row more
abbrev with_node : ℕ → ℕ → ℕ × ℕ
with_node m u = (u, m)

in_row : (row : List ℕ) (m t n : ℕ) → Contains {X = ℕ × ℕ} (map (with_node m) row) (t, n) → (n ≡ m) × Contains row t
in_row row m t n there =
    let k = there.0 in
    let below : k < length row = omega (arith, there.1, length-map row (with_node m)) in
    let is : (get_or row k t, m) ≡ (t, n) = sym (get_or-map (with_node m) row k t (t, n) below) ∙ there.2 in
    (sym (ap (λ (p : ℕ × ℕ). p.1) is), (k, below, ap (λ (p : ℕ × ℕ). p.0) is))

of_row : (row : List ℕ) (m t : ℕ) → Contains row t → Contains {X = ℕ × ℕ} (map (with_node m) row) (t, m)
of_row row m t there =
    (there.0, omega (arith, there.1, length-map row (with_node m)), get_or-map (with_node m) row there.0 t (t, m) there.1 ∙ ap (with_node m) there.2)

pub pairs_none : (rows : List (List ℕ)) → ArePairs rows 0 []
pairs_none rows = λ t n. (λ there. absurd (omega (arith, there.1)), λ both. absurd (omega (arith, both.0)))

pub pairs_more : (rows : List (List ℕ)) (m : ℕ) (row : List ℕ) (pairs new : List (ℕ × ℕ)) → ArePairs rows m pairs → row ≡ row_of rows m
    → new ≡ pairs ++ map (with_node m) row → ArePairs rows (m + 1) new
pairs_more rows m row pairs new are row_is is = λ t n.
    subst (λ (ps : List (ℕ × ℕ)). Contains ps (t, n) ↔ ((n < m + 1) × Contains (row_of rows n) t)) (sym is) (
      λ there. elim (Contains-append_cases pairs (map (with_node m) row) (t, n) there) [
        | inl before ↦ let both = (are t n).0 before in (omega (arith, both.0), both.1)
        | inr here ↦
            let both = in_row row m t n here in
            (omega (arith, both.0), subst (λ k. Contains (row_of rows k) t) (sym both.0) (subst (λ (ns : List ℕ). Contains ns t) row_is both.1))
      ],
      λ both. elim (cases_order n m) [
        | inl same ↦
            let there = subst (λ (ns : List ℕ). Contains ns t) (sym row_is) (subst (λ k. Contains (row_of rows k) t) same both.1) in
            subst (λ k. Contains (pairs ++ map (with_node m) row) (t, k)) (sym same) (Contains-append_right pairs (map (with_node m) row) (t, m) (of_row row m t there))
        | inr (inl less) ↦ Contains-append_left pairs (map (with_node m) row) (t, n) ((are t n).1 (less, both.1))
        | inr (inr more) ↦ absurd (omega (arith, both.0, more))
      ],
    )

-- a run of pairs with one number
module _ (pairs : List (ℕ × ℕ)) (rise : IsNonDecreasingBy (λ (p : ℕ × ℕ). p.0) pairs) (start end t : ℕ) (begun : IsBegun pairs start t) (run : IsRun pairs start end t) where
  pub begun_more : IsBegun pairs end (t + 1)
  begun_more = record {
    within = run.within;
    less = λ k d below. elim (cases_lt k start) [
      | inl before ↦ omega (arith, begun.less k d before)
      | inr after ↦ omega (arith, run.most k d after below)
    ];
    most = λ k d after below.
        let inside : end < length pairs = omega arith in
        omega (arith, run.next d inside, rise end k d after below);
  }

  part_at : (k d : ℕ) (e : ℕ × ℕ) → k < end - start → get_or (take (end - start) (drop start (map (λ (p : ℕ × ℕ). p.1) pairs))) k d ≡ (get_or pairs (start + k) e).1
  part_at k d e below =
      let inside : start + k < length pairs = omega (arith, below, run.order, run.within) in
      get_or-take (end - start) (drop start (map (λ (p : ℕ × ℕ). p.1) pairs)) k d below ∙ get_or-drop start (map (λ (p : ℕ × ℕ). p.1) pairs) k d
      ∙ get_or-map (λ (p : ℕ × ℕ). p.1) pairs (start + k) e d inside

  part_length : length (take (end - start) (drop start (map (λ (p : ℕ × ℕ). p.1) pairs))) ≡ end - start
  part_length = length-take-le (end - start) (drop start (map (λ (p : ℕ × ℕ). p.1) pairs))
      (omega (arith, run.order, run.within, length-drop start (map (λ (p : ℕ × ℕ). p.1) pairs), length-map pairs (λ (p : ℕ × ℕ). p.1)))

  pub run_beside : (n : ℕ) → Contains (take (end - start) (drop start (map (λ (p : ℕ × ℕ). p.1) pairs))) n ↔ Contains pairs (t, n)
  run_beside n = (
    λ there.
        let k = there.0 in
        let below : k < end - start = omega (arith, there.1, part_length) in
        let e : ℕ × ℕ = (t, n) in
        let at = get_or pairs (start + k) e in
        let second : at.1 ≡ n = sym (part_at k n e below) ∙ there.2 in
        let after : start ≤ start + k = omega arith in
        let before : start + k < end = omega (arith, below, run.order) in
        let inside : start + k < length pairs = omega (arith, before, run.within) in
        let first : at.0 ≡ t = omega (arith, run.most (start + k) e after before, begun.most (start + k) e after inside) in
        (start + k, inside, ap₂ (λ (x : ℕ) (y : ℕ). (x, y)) first second),
    λ there.
        let j = there.0 in
        let e : ℕ × ℕ = (t, n) in
        let first : (get_or pairs j e).0 ≡ t = ap (λ (p : ℕ × ℕ). p.0) there.2 in
        let after : start ≤ j = elim (cases_lt j start) [ inl less ↦ absurd (omega (arith, begun.less j e less, first)) | inr most ↦ most ] in
        let before : j < end = elim (cases_lt j end) [
          | inl less ↦ less
          | inr most ↦
              let inside : end < length pairs = omega (arith, most, there.1) in
              absurd (omega (arith, run.next e inside, rise end j e most there.1, first))
        ] in
        let below : j - start < end - start = omega (arith, after, before) in
        let back : start + (j - start) ≡ j = omega (arith, after) in
        (j - start, omega (arith, below, part_length), part_at (j - start) n e below ∙ ap (λ i. (get_or pairs i e).1) back ∙ ap (λ (p : ℕ × ℕ). p.1) there.2),
  )

  pub firsts_more : (table new : List (List ℕ)) (row : List ℕ) → AreFirsts pairs t table → row ≡ take (end - start) (drop start (map (λ (p : ℕ × ℕ). p.1) pairs))
      → new ≡ table ++ row ∷ [] → AreFirsts pairs (t + 1) new
  firsts_more table new row done row_is is = record {
    all = ap length is ∙ length_push table row ∙ ap (λ n. n + 1) done.all;
    beside = λ u n below. elim (cases_order u t) [
      | inl same ↦
          let here : row_of new u ≡ take (end - start) (drop start (map (λ (p : ℕ × ℕ). p.1) pairs)) =
          ap₂ (λ (rs : List (List ℕ)) i. row_of rs i) is same ∙ get_or_push table row [] t done.all ∙ row_is in
          subst (λ (ns : List ℕ). Contains ns n ↔ Contains pairs (u, n)) (sym here) (subst (λ i. Contains (take (end - start) (drop start (map (λ (p : ℕ × ℕ). p.1) pairs))) n ↔ Contains pairs (i, n)) (sym same) (run_beside n))
      | inr (inl less) ↦
          let here : row_of new u ≡ row_of table u = ap (λ (rs : List (List ℕ)). row_of rs u) is ∙ get_or_append_left table (row ∷ []) [] u (omega (arith, less, done.all)) in
          subst (λ (ns : List ℕ). Contains ns n ↔ Contains pairs (u, n)) (sym here) (done.beside u n less)
      | inr (inr more) ↦ absurd (omega (arith, below, more))
    ];
  }

pub firsts_none : (pairs : List (ℕ × ℕ)) → AreFirsts pairs 0 []
firsts_none pairs = record { all = refl; beside = λ t n below. absurd (omega arith) }

-- who holds a number stands beside it in pairs that are only moved
pub held_by : (rows holders : List (List ℕ)) (pairs sorted : List (ℕ × ℕ)) (count t n : ℕ) → ArePairs rows (length rows) pairs → IsPermutation pairs sorted
    → AreFirsts sorted count holders → t < count → Contains (row_of holders t) n ↔ Contains (row_of rows n) t
held_by rows holders pairs sorted count t n are moved firsts below = (
  λ there. ((are t n).0 (Contains-permutation sorted pairs (t, n) (IsPermutation-sym pairs sorted moved) ((firsts.beside t n below).0 there))).1,
  λ there. (firsts.beside t n below).1 (Contains-permutation pairs sorted (t, n) moved ((are t n).1 (within there, there))),
)
  where
    within : Contains (row_of rows n) t → n < length rows
    within there = elim (cases_lt n (length rows)) [
      | inl less ↦ less
      | inr past ↦ absurd (omega (arith, there.1, ap length (get_or_past rows n [] past)))
    ]

-- what holds where a call gives a value
pub if_ok : {A B : Type 0} (r : Result A B) (P Q : A → Type 0) → IfOk r P → ((x : A) → P x → Q x) → IfOk r Q
if_ok (Ok x) P Q holds more = more x holds
if_ok (Err e) P Q holds more = tt
