-- Lists in which each item stands once, by a test of equality.
use Rattle.std.proofs.Common.{◌≡◌, ℕ, ◌≤◌, Bool, true, false, List, [], ◌∷◌, ◌++◌, sym, ◌∙◌, ap, subst, inl, inr, refl, arith}
use Rattle.std.specs.Prelude.{◌⊎◌, IsTrue, nat_eq, if◌then◌else◌}
use Rattle.std.specs.List.{flat_map, sum_by}
use Rattle.std.specs.Cmp.Lexicographic.{nat_list_eq_equiv}
use Rattle.std.proofs.lemmas.Bool.{or_cases, or_left, or_right, or_parts, false_from_ne_true, eqb-true, eq-eqb, cases_Bool, both_ways, and_parts}
use Rattle.std.proofs.lemmas.List.Sums.{sum_by-cons, sum_by-append}
use Rattle.std.proofs.lemmas.List.Folds.{list_any-append}
use Rattle.mk_name.specs.Names.{Name, same_name, has, kept, firsts, IsDistinct}

-- a test of equality
pub record IsExact {X : Type 0} (same : X → X → Bool) : Type 0 where
  pub itself : (x : X) → same x x ≡ true
  pub equal : (x y : X) → same x y ≡ true → x ≡ y

same_bytes : (x y : Name) → same_name x y ≡ true → x ≡ y
same_bytes [] [] h = refl
same_bytes [] (y ∷ ys) h = absurd (both_ways _ refl h)
same_bytes (x ∷ xs) [] h = absurd (both_ways _ refl h)
same_bytes (x ∷ xs) (y ∷ ys) h =
    let parts = and_parts _ _ h in
    ap (λ z. z ∷ xs) (eqb-true x y parts.0) ∙ ap (λ zs. y ∷ zs) (same_bytes xs ys parts.1)

pub name_is_exact : IsExact same_name
name_is_exact = record { itself = nat_list_eq_equiv.refl; equal = same_bytes }

pub nat_is_exact : IsExact nat_eq
nat_is_exact = record { itself = λ x. eq-eqb x x refl; equal = eqb-true }

-- it stands in the list
abbrev pub In : {X : Type 0} → (X → X → Bool) → List X → X → Type 0
In same xs x = IsTrue (has same xs x)

-- all of a list stand in another
abbrev pub Within : {X : Type 0} → (X → X → Bool) → List X → List X → Type 0
Within {X} same xs ys = (x : X) → In same xs x → In same ys x

module _ {X : Type 0} (same : X → X → Bool) (exact : IsExact same) where
  pub in_head : (x : X) (xs : List X) → In same (x ∷ xs) x
  in_head x xs = or_left _ _ (exact.itself x)

  pub in_tail : (y x : X) (xs : List X) → In same xs x → In same (y ∷ xs) x
  in_tail y x xs h = or_right (same y x) _ h

  pub in_cons_cases : (y x : X) (xs : List X) → In same (y ∷ xs) x → (y ≡ x) ⊎ In same xs x
  in_cons_cases y x xs h = elim (or_cases (same y x) _ h) [ inl e ↦ inl (exact.equal y x e) | inr t ↦ inr t ]

  pub in_left : (xs ys : List X) (x : X) → In same xs x → In same (xs ++ ys) x
  in_left xs ys x h = list_any-append (λ y. same y x) xs ys ∙ or_left _ _ h

  pub in_right : (xs ys : List X) (x : X) → In same ys x → In same (xs ++ ys) x
  in_right xs ys x h = list_any-append (λ y. same y x) xs ys ∙ or_right (has same xs x) _ h

  pub in_cases : (xs ys : List X) (x : X) → In same (xs ++ ys) x → In same xs x ⊎ In same ys x
  in_cases xs ys x h = or_cases _ _ (sym (list_any-append (λ y. same y x) xs ys) ∙ h)

  pub in_push : (xs : List X) (x : X) → In same (xs ++ x ∷ []) x
  in_push xs x = in_right xs (x ∷ []) x (in_head x [])

  pub in_push_cases : (xs : List X) (y x : X) → In same (xs ++ y ∷ []) x → In same xs x ⊎ (y ≡ x)
  in_push_cases xs y x h =
      elim (in_cases xs (y ∷ []) x h) [ inl l ↦ inl l | inr r ↦ elim (in_cons_cases y x [] r) [ inl e ↦ inr e | inr n ↦ absurd (both_ways _ refl n) ] ]

  pub not_in : (xs : List X) (x : X) → (In same xs x → ⊥) → has same xs x ≡ false
  not_in xs x h = false_from_ne_true _ h

  pub has-push_other : (xs : List X) (y x : X) → (y ≡ x → ⊥) → has same xs x ≡ has same (xs ++ y ∷ []) x
  has-push_other xs y x n =
      elim (cases_Bool (has same xs x)) [
        | inl t ↦ t ∙ sym (in_left xs (y ∷ []) x t)
        | inr f ↦ f ∙ sym (not_in (xs ++ y ∷ []) x (λ h. elim (in_push_cases xs y x h) [ inl t ↦ both_ways _ f t | inr e ↦ n e ]))
      ]

  pub in_joined : {Y : Type 0} (test : Y → Y → Bool) (sound : IsExact test) (f : Y → List X) (ys : List Y) (y : Y) (x : X) → In test ys y → In same (f y) x → In same (flat_map f ys) x
  in_joined test sound f [] y x m h = absurd (both_ways _ refl m)
  in_joined test sound f (z ∷ ys) y x m h =
      elim (or_cases (test z y) _ m) [
        | inl e ↦ in_left (f z) (flat_map f ys) x (subst (λ (w : _). In same (f w) x) (sym (sound.equal z y e)) h)
        | inr t ↦ in_right (f z) (flat_map f ys) x (in_joined test sound f ys y x t h)
      ]

  pub joined_within : {Y : Type 0} (test : Y → Y → Bool) (sound : IsExact test) (f : Y → List X) (ys : List Y) (xs : List X) → ((y : Y) → In test ys y → Within same (f y) xs) → Within same (flat_map f ys) xs
  joined_within test sound f [] xs h x m = absurd (both_ways _ refl m)
  joined_within test sound f (z ∷ ys) xs h x m =
      elim (in_cases (f z) (flat_map f ys) x m) [
        | inl l ↦ h z (or_left _ _ (sound.itself z)) x l
        | inr r ↦ joined_within test sound f ys xs (λ y i. h y (or_right (test z y) _ i)) x r
      ]

  pub kept_new : (front : List X) (x : X) (xs : List X) → has same front x ≡ false → kept same front (x ∷ xs) ≡ kept same (front ++ x ∷ []) xs
  kept_new front x xs h = ap (λ b. kept same (if b then front else front ++ x ∷ []) xs) h

  pub kept_old : (front : List X) (x : X) (xs : List X) → In same front x → kept same front (x ∷ xs) ≡ kept same front xs
  kept_old front x xs h = ap (λ b. kept same (if b then front else front ++ x ∷ []) xs) h

  pub kept-append : (front xs ys : List X) → kept same front (xs ++ ys) ≡ kept same (kept same front xs) ys
  kept-append front [] ys = refl
  kept-append front (x ∷ xs) ys = kept-append (if has same front x then front else front ++ x ∷ []) xs ys

  pub kept_within : (front xs : List X) → Within same xs front → kept same front xs ≡ front
  kept_within front [] h = refl
  kept_within front (x ∷ xs) h = kept_old front x xs (h x (in_head x xs)) ∙ kept_within front xs (λ y i. h y (in_tail x y xs i))

  pub kept_skip : (front xs ys : List X) → Within same xs front → kept same front (xs ++ ys) ≡ kept same front ys
  kept_skip front xs ys h = kept-append front xs ys ∙ ap (λ zs. kept same zs ys) (kept_within front xs h)

  pub kept_front : (front xs : List X) (x : X) → In same front x → In same (kept same front xs) x
  kept_front front [] x h = h
  kept_front front (y ∷ ys) x h =
      elim (cases_Bool (has same front y)) [
        | inl t ↦ subst (λ (zs : List X). In same zs x) (sym (kept_old front y ys t)) (kept_front front ys x h)
        | inr f ↦ subst (λ (zs : List X). In same zs x) (sym (kept_new front y ys f)) (kept_front (front ++ y ∷ []) ys x (in_left front (y ∷ []) x h))
      ]

  pub kept_has : (front xs : List X) (x : X) → In same xs x → In same (kept same front xs) x
  kept_has front [] x h = absurd (both_ways _ refl h)
  kept_has front (y ∷ ys) x h =
      elim (cases_Bool (has same front y)) [
        | inl t ↦ subst (λ (zs : List X). In same zs x) (sym (kept_old front y ys t)) (elim (in_cons_cases y x ys h) [
          | inl e ↦ kept_front front ys x (subst (λ (z : X). In same front z) e t)
          | inr i ↦ kept_has front ys x i
        ])
        | inr f ↦ subst (λ (zs : List X). In same zs x) (sym (kept_new front y ys f)) (elim (in_cons_cases y x ys h) [
          | inl e ↦ kept_front (front ++ y ∷ []) ys x (subst (λ (z : X). In same (front ++ y ∷ []) z) e (in_push front y))
          | inr i ↦ kept_has (front ++ y ∷ []) ys x i
        ])
      ]

  pub kept_cases : (front xs : List X) (x : X) → In same (kept same front xs) x → In same front x ⊎ In same xs x
  kept_cases front [] x h = inl h
  kept_cases front (y ∷ ys) x h =
      elim (cases_Bool (has same front y)) [
        | inl t ↦ elim (kept_cases front ys x (subst (λ (zs : List X). In same zs x) (kept_old front y ys t) h)) [
          | inl l ↦ inl l
          | inr r ↦ inr (in_tail y x ys r)
        ]
        | inr f ↦ elim (kept_cases (front ++ y ∷ []) ys x (subst (λ (zs : List X). In same zs x) (kept_new front y ys f) h)) [
          | inl l ↦ elim (in_push_cases front y x l) [ inl i ↦ inl i | inr e ↦ inr (subst (λ (z : X). In same (y ∷ ys) z) e (in_head y ys)) ]
          | inr r ↦ inr (in_tail y x ys r)
        ]
      ]

  -- what is kept of a list may be kept again in its place
  pub kept_again : (front some xs : List X) → kept same front (kept same some xs) ≡ kept same (kept same front some) xs
  kept_again front some [] = refl
  kept_again front some (x ∷ xs) =
      elim (cases_Bool (has same some x)) [
        | inl t ↦ ap (kept same front) (kept_old some x xs t) ∙ kept_again front some xs ∙ sym (kept_old (kept same front some) x xs (kept_has front some x t))
        | inr f ↦ ap (kept same front) (kept_new some x xs f) ∙ kept_again front (some ++ x ∷ []) xs ∙ ap (λ zs. kept same zs xs) (kept-append front some (x ∷ []))
      ]

  pub distinct_push : (xs : List X) (x : X) → IsDistinct same xs → has same xs x ≡ false → IsDistinct same (xs ++ x ∷ [])
  distinct_push [] x d h = (refl, tt)
  distinct_push (y ∷ ys) x d h =
      let parts = or_parts (same y x) _ h in
      (sym (has-push_other ys x y (λ e. both_ways _ parts.0 (subst (λ (z : X). same y z ≡ true) (sym e) (exact.itself y)))) ∙ d.0, distinct_push ys x d.1 parts.1)

  pub distinct_kept : (front xs : List X) → IsDistinct same front → IsDistinct same (kept same front xs)
  distinct_kept front [] d = d
  distinct_kept front (x ∷ xs) d =
      elim (cases_Bool (has same front x)) [
        | inl t ↦ subst (λ (zs : List X). IsDistinct same zs) (sym (kept_old front x xs t)) (distinct_kept front xs d)
        | inr f ↦ subst (λ (zs : List X). IsDistinct same zs) (sym (kept_new front x xs f)) (distinct_kept (front ++ x ∷ []) xs (distinct_push front x d f))
      ]

  -- the list around one of its items
  pub parted : (xs : List X) (x : X) → In same xs x → (front : List X) × (back : List X) × (xs ≡ front ++ x ∷ back)
  parted [] x h = absurd (both_ways _ refl h)
  parted (y ∷ ys) x h =
      elim (in_cons_cases y x ys h) [
        | inl e ↦ ([], ys, ap (λ z. z ∷ ys) e)
        | inr i ↦ let p = parted ys x i in (y ∷ p.0, p.1, ap (λ zs. y ∷ zs) p.2)
      ]

  without : (front back : List X) (x y : X) → (x ≡ y → ⊥) → In same (front ++ x ∷ back) y → In same (front ++ back) y
  without front back x y n h =
      elim (in_cases front (x ∷ back) y h) [
        | inl l ↦ in_left front back y l
        | inr r ↦ elim (in_cons_cases x y back r) [ inl e ↦ absurd (n e) | inr i ↦ in_right front back y i ]
      ]

  -- distinct items of a list weigh no more than the list
  pub sum_within : (weight : X → ℕ) (xs ys : List X) → IsDistinct same xs → Within same xs ys → sum_by weight xs ≤ sum_by weight ys
  sum_within weight [] ys d w = omega arith
  sum_within weight (x ∷ xs) ys d w =
      let p = parted ys x (w x (in_head x xs)) in
      let rest : sum_by weight xs ≤ sum_by weight (p.0 ++ p.1) = sum_within weight xs (p.0 ++ p.1) d.1
      (λ y i. without p.0 p.1 x y (λ e. both_ways _ d.0 (subst (λ (z : X). In same xs z) (sym e) i)) (subst (λ (zs : List X). In same zs y) p.2 (w y (in_tail x y xs i)))) in
      let whole : sum_by weight ys ≡ sum_by weight (p.0 ++ x ∷ p.1) = ap (sum_by weight) p.2 in
      omega (arith, rest, whole, sum_by-cons weight x xs, sum_by-append weight p.0 p.1, sum_by-append weight p.0 (x ∷ p.1), sum_by-cons weight x p.1)

  -- the same items stand in what is kept of a list
  pub has-firsts : (xs : List X) (x : X) → has same (firsts same xs) x ≡ has same xs x
  has-firsts xs x =
      elim (cases_Bool (has same xs x)) [
        | inl t ↦ kept_has [] xs x t ∙ sym t
        | inr f ↦ not_in (firsts same xs) x (λ h. elim (kept_cases [] xs x h) [ inl n ↦ both_ways _ refl n | inr i ↦ both_ways _ f i ]) ∙ sym f
      ]

  pub firsts_again : (xs : List X) (x : X) → has same xs x ≡ true → firsts same (xs ++ x ∷ []) ≡ firsts same xs
  firsts_again xs x h = kept-append [] xs (x ∷ []) ∙ kept_old (firsts same xs) x [] (has-firsts xs x ∙ h)

  pub firsts_first : (xs : List X) (x : X) → has same xs x ≡ false → firsts same (xs ++ x ∷ []) ≡ firsts same xs ++ x ∷ []
  firsts_first xs x h = kept-append [] xs (x ∷ []) ∙ kept_new (firsts same xs) x [] (has-firsts xs x ∙ h)
