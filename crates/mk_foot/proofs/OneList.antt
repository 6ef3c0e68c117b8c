-- Entries in the byte order of their names are one list, whatever stands at each name.
use Rattle.std.proofs.Common.{◌≡◌, Less, Equal, Greater, Ordering, true, false, List, [], ◌∷◌, Some, None, refl, sym, ap, ◌∙◌, inl, inr}
use Rattle.std.specs.Cmp.Lexicographic.{slice_cmp, nat_list_cmp_total, nat_list_eq_equiv, texts_ties}
use Rattle.std.specs.List.{AllByRecursion}
use Rattle.std.specs.List.Sorted.{IsStrictlySortedBy}
use Rattle.std.specs.Map.{keys_of, lookup}
use Rattle.std.specs.Ordering.{is_eq, nat_cmp, ordering_reverse}
use Rattle.std.proofs.lemmas.Bool.{cases_Bool}
use Rattle.std.proofs.lemmas.Map.Keys.{sorted_head, sorted_tail}
use Rattle.mk_name.specs.Names.{Name, same_name}
use Rattle.mk_name.proofs.Names.{name_is_exact}

-- a name below another is another one
apart : (x y : Name) → slice_cmp nat_cmp x y ≡ Less → same_name x y ≡ false
apart x y below = texts_ties x y ∙ ap is_eq below

below_from : (x y : Name) → slice_cmp nat_cmp x y ≡ Greater → slice_cmp nat_cmp y x ≡ Less
below_from x y above = nat_list_cmp_total.antisymm y x ∙ ap ordering_reverse above

same_from : (x y : Name) → slice_cmp nat_cmp x y ≡ Equal → x ≡ y
same_from x y tie = name_is_exact.equal x y (texts_ties x y ∙ ap is_eq tie)

itself : (x : Name) → same_name x x ≡ true
itself x = nat_list_eq_equiv.refl x

module _ {X : Type 0} where
  -- nothing stands at a name below all
  none_below : (x : Name) (es : List (Name × X)) → AllByRecursion (λ y. slice_cmp nat_cmp x y ≡ Less) (keys_of es) → lookup (same_name x) es ≡ None
  none_below x [] all = refl
  none_below x (e ∷ es) all = rw (apart x e.0 all.0) (none_below x es all.1)

  lower : (x y : Name) (es : List (Name × X)) → slice_cmp nat_cmp x y ≡ Less → AllByRecursion (λ z. slice_cmp nat_cmp y z ≡ Less) (keys_of es)
      → AllByRecursion (λ z. slice_cmp nat_cmp x z ≡ Less) (keys_of es)
  lower x y [] below all = tt
  lower x y (e ∷ es) below all = (nat_list_cmp_total.trans x y e.0 below all.0, lower x y es below all.1)

  -- the first of some entries
  at_head : (e : Name × X) (es : List (Name × X)) → lookup (same_name e.0) (e ∷ es) ≡ Some e.1
  at_head e es = rw (itself e.0) refl

  -- a list whose first name is below all names of another is another one
  differs : (e : Name × X) (es fs : List (Name × X)) → AllByRecursion (λ y. slice_cmp nat_cmp e.0 y ≡ Less) (keys_of fs)
      → ((x : Name) → lookup (same_name x) (e ∷ es) ≡ lookup (same_name x) fs) → ⊥
  differs e es fs below alike =
      let found : Some e.1 ≡ None = sym (at_head e es) ∙ alike e.0 ∙ none_below e.0 fs below in
      cc

  pub one_list : (es fs : List (Name × X)) → IsStrictlySortedBy (slice_cmp nat_cmp) (keys_of es) → IsStrictlySortedBy (slice_cmp nat_cmp) (keys_of fs)
      → ((x : Name) → lookup (same_name x) es ≡ lookup (same_name x) fs) → es ≡ fs
  one_list [] [] rise climb alike = refl
  one_list [] (f ∷ fs) rise climb alike = absurd (differs f fs [] tt (λ x. sym (alike x)))
  one_list (e ∷ es) [] rise climb alike = absurd (differs e es [] tt alike)
  one_list (e ∷ es) (f ∷ fs) rise climb alike =
      by (slice_cmp nat_cmp e.0 f.0) refl (λ rest. one_list es fs (sorted_tail (slice_cmp nat_cmp) e.0 (keys_of es) rise) (sorted_tail (slice_cmp nat_cmp) f.0 (keys_of fs) climb) rest)
    where
      head_e : AllByRecursion (λ y. slice_cmp nat_cmp e.0 y ≡ Less) (keys_of es)
      head_e = sorted_head (slice_cmp nat_cmp) e.0 (keys_of es) rise

      head_f : AllByRecursion (λ y. slice_cmp nat_cmp f.0 y ≡ Less) (keys_of fs)
      head_f = sorted_head (slice_cmp nat_cmp) f.0 (keys_of fs) climb

      -- behind equal names the rest is alike
      rest_at : e.0 ≡ f.0 → (x : Name) → lookup (same_name x) es ≡ lookup (same_name x) fs
      rest_at same x =
          elim (cases_Bool (same_name x e.0)) [
            | inl here ↦
                let is : x ≡ e.0 = name_is_exact.equal x e.0 here in
                ap (λ (y : Name). lookup (same_name y) es) is ∙ none_below e.0 es head_e
                ∙ sym (ap (λ (y : Name). lookup (same_name y) fs) (is ∙ same) ∙ none_below f.0 fs head_f)
            | inr other ↦
                let skip_f : same_name x f.0 ≡ false = ap (same_name x) (sym same) ∙ other in
                let both = alike x in
                rw (other, skip_f) at both
          ]

      by : (o : Ordering) → slice_cmp nat_cmp e.0 f.0 ≡ o → (((x : Name) → lookup (same_name x) es ≡ lookup (same_name x) fs) → es ≡ fs) → e ∷ es ≡ f ∷ fs
      by Less is go = absurd (differs e es (f ∷ fs) (is, lower e.0 f.0 fs is head_f) alike)
      by Greater is go =
          let below = below_from e.0 f.0 is in
          absurd (differs f fs (e ∷ es) (below, lower f.0 e.0 es below head_e) (λ x. sym (alike x)))
      by Equal is go =
          let same : e.0 ≡ f.0 = same_from e.0 f.0 is in
          let values : Some e.1 ≡ Some f.1 =
          sym (at_head e es) ∙ alike e.0 ∙ ap (λ (y : Name). lookup (same_name y) (f ∷ fs)) same ∙ at_head f fs in
          let value : e.1 ≡ f.1 = cc in
          let firsts : e ≡ f = (λ i. (same i, value i)) in
          let rest : es ≡ fs = go (rest_at same) in
          cc
