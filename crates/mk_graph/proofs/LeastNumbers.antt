-- The least number that two sets have.
use Rattle.std.proofs.Common.{◌≡◌, ℕ, suc, ◌<◌, Bool, true, false, List, [], ◌∷◌, sym, ◌∙◌, ap, subst, refl, inl, inr, arith, find, Option, Some, None}
use Rattle.std.specs.Prelude.{◌⊎◌, ◌||◌, ◌&&◌}
use Rattle.std.specs.BTreeMap.{is_at}
use Rattle.std.specs.Cmp.{nat_cmp_is}
use Rattle.std.specs.List.{All, list_any}
use Rattle.std.specs.List.Sorted.{IsStrictlySortedBy}
use Rattle.std.specs.Ordering.{is_eq, nat_cmp}
use Rattle.std.specs.declared.cmp.Ordering.TheVariants.{Less, Equal, Greater}
use Rattle.std.proofs.lemmas.Bool.{and_from, and_parts, cases_Bool, cases_order, cond-false, cond-true, or_from, or_left, or_right}
use Rattle.std.proofs.lemmas.Map.Keys.{sorted_tail}
use Rattle.std.proofs.lemmas.Map.Views.{All-after_first}
use Rattle.mk_graph.specs.Numbers.{IsLeast}

-- the list has the number, as a set looks for it
abbrev pub Has : List ℕ → ℕ → Bool
Has ks p = list_any (is_at (nat_cmp p)) ks

at_itself : (p : ℕ) → is_at (nat_cmp p) p ≡ true
at_itself p = ap is_eq (sym (nat_cmp_is p p Equal refl))

not_at : (p k : ℕ) → (p < k) ⊎ (k < p) → is_at (nat_cmp p) k ≡ false
not_at p k (inl l) = ap is_eq (sym (nat_cmp_is p k Less l))
not_at p k (inr l) = ap is_eq (sym (nat_cmp_is p k Greater l))

is_less : (k q : ℕ) → nat_cmp k q ≡ Less → k < q
is_less k q e =
    elim (cases_order k q) [
      | inl same ↦ let clash : Equal ≡ Less = nat_cmp_is k q Equal same ∙ e in absurd cc
      | inr (inl l) ↦ l
      | inr (inr g) ↦ let clash : Greater ≡ Less = nat_cmp_is k q Greater g ∙ e in absurd cc
    ]

none_above : (p : ℕ) (ks : List ℕ) → All (λ q. p < q) ks → Has ks p ≡ false
none_above p [] h = refl
none_above p (k ∷ ks) h = or_from _ _ (not_at p k (inl (h 0 0 (omega arith)))) (none_above p ks (λ i d l. h (suc i) d (omega (arith, l))))

-- the numbers up to the first stand in no rest of a rising list
none_before : (p k : ℕ) (ks : List ℕ) → IsStrictlySortedBy nat_cmp (k ∷ ks) → p < suc k → Has ks p ≡ false
none_before p k ks sorted l = none_above p ks (λ i d m. let q = is_less k _ (All-after_first nat_cmp k ks sorted i d m) in omega (arith, l, q))

fails : (b c : Bool) → b ≡ false → (b && c) ≡ false
fails b c e = ap (λ x. x && c) e

-- the first of a rising list that passes a test is the least
pub found_least : (test : ℕ → Bool) (ks : List ℕ) → IsStrictlySortedBy nat_cmp ks → IsLeast (λ p. Has ks p && test p) (find test ks)
found_least test [] sorted = λ p. refl
found_least test (k ∷ ks) sorted =
    elim (cases_Bool (test k)) [
      | inl t ↦ subst (IsLeast (λ p. Has (k ∷ ks) p && test p)) (sym (cond-true (test k) (Some k) _ t))
          (and_from _ _ (or_left _ _ (at_itself k)) t, λ p l. fails _ (test p) (or_from _ _ (not_at p k (inl l)) (none_before p k ks sorted (omega (arith, l)))))
      | inr f ↦ subst (IsLeast (λ p. Has (k ∷ ks) p && test p)) (sym (cond-false (test k) (Some k) _ f)) (more f (find test ks) (found_least test ks (sorted_tail nat_cmp k ks sorted)))
    ]
  where
    same : test k ≡ false → (p : ℕ) → (Has ks p && test p) ≡ false → (Has (k ∷ ks) p && test p) ≡ false
    same f p h =
        elim (cases_order p k) [
          | inl e ↦ last (Has (k ∷ ks) p) (test p) (ap test e ∙ f)
          | inr (inl l) ↦ ap (λ b. (b || Has ks p) && test p) (not_at p k (inl l)) ∙ h
          | inr (inr l) ↦ ap (λ b. (b || Has ks p) && test p) (not_at p k (inr l)) ∙ h
        ]
      where
        last : (b c : Bool) → c ≡ false → (b && c) ≡ false
        last true c e = e
        last false c e = refl

    more : test k ≡ false → (r : Option ℕ) → IsLeast (λ p. Has ks p && test p) r → IsLeast (λ p. Has (k ∷ ks) p && test p) r
    more f None h = λ p. same f p (h p)
    more f (Some n) h =
        let both = and_parts (Has ks n) (test n) h.0 in
        (and_from _ _ (or_right (is_at (nat_cmp n) k) _ both.0) both.1, λ p l. same f p (h.1 p l))

-- the same for tests that are the same
pub least_same : (one other : ℕ → Bool) → ((p : ℕ) → one p ≡ other p) → (r : Option ℕ) → IsLeast one r → IsLeast other r
least_same one other e None h = λ p. sym (e p) ∙ h p
least_same one other e (Some n) h = (sym (e n) ∙ h.0, λ p l. sym (e p) ∙ h.1 p l)

pub turned : (b c : Bool) → (b && c) ≡ (c && b)
turned true true = refl
turned true false = refl
turned false true = refl
turned false false = refl
