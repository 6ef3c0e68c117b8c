-- A search by halves in a list that rises finds what stands in it.
use Rattle.std.proofs.Common.{ℕ, ◌≡◌, ◌≤◌, Bool, List, Result, Ok, Err, is_ok, Ordering, Less, Equal, Greater, length, get_or, refl, sym, ap, ◌∙◌, subst, arith, inl, inr}
use Rattle.std.specs.Cmp.{IsTotalOrder}
use Rattle.std.specs.List.Sorted.{IsBinarySearchResult, IsNonDecreasingBy, IsSearchInRange, IsStrictlySortedBy}
use Rattle.std.specs.Ordering.{is_eq, ordering_index, ordering_reverse}
use Rattle.std.proofs.lemmas.Bool.{cases_order}
use Rattle.std.proofs.lemmas.List.Folds.{list_any_none, list_any_at}
use Rattle.std.proofs.lemmas.Map.Keys.{Less-from_sorted}
use Rattle.mk_name.specs.Names.{has}

split_ordering : {X : Type 0} (o : Ordering) → (o ≡ Less → X) → (o ≡ Equal → X) → (o ≡ Greater → X) → X
split_ordering Less f g h = f refl
split_ordering Equal f g h = g refl
split_ordering Greater f g h = h refl

module _ {K : Type 0} (cmp : K → K → Ordering) (total : IsTotalOrder cmp) where
  -- of two the later one does not compare lower to a third
  rank_up : (a b x : K) → cmp a b ≡ Less → ordering_index (cmp a x) ≤ ordering_index (cmp b x)
  rank_up a b x less = split_ordering (cmp a x)
      (λ low. rw low (omega arith))
      (λ equal.
      let later : cmp b x ≡ Greater = total.antisymm b x ∙ ap ordering_reverse (sym (total.congr a x b equal) ∙ less) in
      rw (equal, later) (omega arith))
      (λ high.
      let below : cmp x a ≡ Less = total.antisymm x a ∙ ap ordering_reverse high in
      let later : cmp b x ≡ Greater = total.antisymm b x ∙ ap ordering_reverse (total.trans x a b below less) in
      rw (high, later) (omega arith))

  pub rises : (xs : List K) (x : K) → IsStrictlySortedBy cmp xs → IsNonDecreasingBy (λ y. ordering_index (cmp y x)) xs
  rises xs x sorted i j d le inside = elim (cases_order i j) [
    | inl same ↦ subst (λ (k : ℕ). ordering_index (cmp (get_or xs i d) x) ≤ ordering_index (cmp (get_or xs k d) x)) same (omega arith)
    | inr (inl less) ↦ rank_up (get_or xs i d) (get_or xs j d) x (Less-from_sorted cmp xs i j d sorted less inside)
    | inr (inr more) ↦ absurd (omega (arith, more, le))
  ]

  -- where the test of equality is that of the order, the search says whether x stands in the list
  pub search_reports : (same : K → K → Bool) → ((y x : K) → same y x ≡ is_eq (cmp y x)) → (xs : List K) (x : K) (r : Result ℕ ℕ)
      → IsStrictlySortedBy cmp xs → IsSearchInRange r (length xs) → IsBinarySearchResult (λ y. cmp y x) xs r → is_ok r ≡ has same xs x
  search_reports same ties xs x (Ok i) sorted inside found =
      sym (list_any_at (λ y. same y x) xs i x inside (ties (get_or xs i x) x ∙ ap is_eq (found x)))
  search_reports same ties xs x (Err i) sorted inside found =
      let parts = found (rises xs x sorted) in
      sym (list_any_none (λ y. same y x) xs (λ k d within. elim (cases_order k i) [
        | inl at ↦ ties (get_or xs k d) x ∙ ap is_eq (parts.1 k d (omega (arith, at)) within)
        | inr (inl less) ↦ ties (get_or xs k d) x ∙ ap is_eq (parts.0 k d (omega arith) less)
        | inr (inr more) ↦ ties (get_or xs k d) x ∙ ap is_eq (parts.1 k d (omega (arith, more)) within)
      ]))
