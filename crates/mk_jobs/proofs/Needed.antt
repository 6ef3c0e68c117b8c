-- Rows of prerequisites in rising order.
use Rattle.std.proofs.Common.{ℕ, ◌≡◌, ◌<◌, ◌+◌, ◌↔◌, true, List, [], ◌∷◌, ◌++◌, Contains, Result, Ok, Err, is_ok, length, get_or, refl, sym, ap, ◌∙◌, subst, inl, inr, arith}
use Rattle.std.specs.List.Sorted.{IsBinarySearchResult, IsNonDecreasing, IsPermutation}
use Rattle.std.specs.Ordering.{nat_cmp}
use Rattle.std.proofs.lemmas.Bool.{cases_lt, false≢true}
use Rattle.std.proofs.lemmas.List.{get_or_append_left, get_or_default, get_or_push, length_push}
use Rattle.std.proofs.lemmas.List.Sorted.{Contains-permutation, IsPermutation-sym, searched}
use Rattle.mk_index.specs.Table.{row_of}
use Rattle.mk_jobs.specs.Plan.{Node, node_at}
use Rattle.mk_jobs.specs.Needs.{IsNeedsOf}

-- a search by halves finds what stands in a row in order
pub found_in : (row : List ℕ) (p : ℕ) (r : Result ℕ ℕ) → IsNonDecreasing row → IsBinarySearchResult (λ y. nat_cmp y p) row r → (is_ok r ≡ true) ↔ Contains row p
found_in row p (Ok i) rising position =
    let at = searched row p (Ok i) position (λ k j le inside. rising k j 0 le inside) in
    (λ yes. (i, at.0, get_or_default row i p 0 at.0 ∙ at.1), λ there. refl)
found_in row p (Err i) rising position =
    let apart = searched row p (Err i) position (λ k j le inside. rising k j 0 le inside) in (
      λ yes. absurd (false≢true yes),
      λ there.
          let here : get_or row there.0 0 ≡ p = get_or_default row there.0 0 p there.1 ∙ there.2 in
          elim (cases_lt there.0 i) [
            | inl before ↦ absurd (let less = apart.1 there.0 before in omega (arith, less, here))
            | inr after ↦ absurd (let more = apart.2 there.0 after there.1 in omega (arith, more, here))
          ],
    )

-- what is reordered keeps its members
pub same_members : (xs ys : List ℕ) → IsPermutation xs ys → (p : ℕ) → Contains ys p ↔ Contains xs p
same_members xs ys moved p = (Contains-permutation ys xs p (IsPermutation-sym xs ys moved), Contains-permutation xs ys p moved)

needs_at : (nodes : List Node) (needs : List (List ℕ)) (n : ℕ) (row : List ℕ) → row_of needs n ≡ row → IsNonDecreasing row
    → IsPermutation (node_at nodes n).prerequisites row → IsNeedsOf nodes needs n
needs_at nodes needs n row is rising all = record {
  rising = subst IsNonDecreasing (sym is) rising;
  all = subst (IsPermutation (node_at nodes n).prerequisites) (sym is) all;
}

-- one row more
pub needs_more : (nodes : List Node) (needs new : List (List ℕ)) (row : List ℕ) (end : ℕ) → length needs ≡ end → ((k : ℕ) → k < end → IsNeedsOf nodes needs k)
    → new ≡ needs ++ row ∷ [] → IsNonDecreasing row → IsPermutation (node_at nodes end).prerequisites row
    → (length new ≡ end + 1) × ((k : ℕ) → k < end + 1 → IsNeedsOf nodes new k)
needs_more nodes needs new row end long rows is rising all = (
  ap length is ∙ length_push needs row ∙ ap (λ n. n + 1) long,
  λ k below. elim (cases_lt k end) [
    | inl before ↦
        let kept : row_of new k ≡ row_of needs k = ap (λ (rs : List (List ℕ)). row_of rs k) is ∙ get_or_append_left needs (row ∷ []) [] k (omega (arith, before, long)) in
        needs_at nodes new k (row_of needs k) kept (rows k before).rising (rows k before).all
    | inr past ↦
        let here : k ≡ end = omega (arith, past, below) in
        let last : row_of new k ≡ row = ap (λ (rs : List (List ℕ)). row_of rs k) is ∙ get_or_push needs row [] k (omega (arith, here, long)) in
        needs_at nodes new k row last rising (subst (λ (n : ℕ). IsPermutation (node_at nodes n).prerequisites row) (sym here) all)
  ],
)
