-- Places of suffixes in the list.
use Rattle.std.proofs.Common.{◌≡◌, ℕ, zero, suc, ◌+◌, ◌≤◌, ◌<◌, Bool, true, false, List, [], ◌∷◌, length, sym, ◌∙◌, ap, subst, refl, inl, inr, arith, Option, Some, None, is_some, find}
use Rattle.std.specs.Prelude.{IsTrue, ◌||◌}
use Rattle.std.specs.List.{All, list_any, position_from}
use Rattle.std.specs.Option.{option_map}
use Rattle.std.specs.Cmp.Lexicographic.{nat_list_eq_equiv}
use Rattle.std.proofs.lemmas.Bool.{both_ways, cases_Bool, cond-true, cond-false}
use Rattle.std.proofs.lemmas.Iterator.Adapters.{position_from-zero}
use Rattle.std.proofs.lemmas.List.Quantifiers.{position-Some}
use Rattle.mk_name.specs.Names.{Name, same_name, has}
use Rattle.mk_name.proofs.Names.{name_is_exact}
use Rattle.mk_rules.specs.Special.{is_suffix}
use Rattle.mk_rules.proofs.Firsts.{has-flip}
use Rattle.mk_jobs.specs.Numbered.{name_at}
use Rattle.mk_graph.specs.Numbers.{IsLeast}
use Rattle.mk_graph.specs.Places.{IsLeastSuffix, place_of}

pub place_is : (xs : List Name) (s : Name) (p : ℕ) → place_of xs s ≡ Some p → (p < length xs) × (name_at xs p ≡ s)
place_is xs s p h =
    let r = position-Some (same_name s) xs p [] h in
    (r.0, sym (name_is_exact.equal s (name_at xs p) r.1))

pub same_place : (xs : List Name) (s r : Name) (p : ℕ) → place_of xs s ≡ Some p → place_of xs r ≡ Some p → s ≡ r
same_place xs s r p h i = sym (place_is xs s p h).1 ∙ (place_is xs r p i).1

some_from : (test : Name → Bool) (n : ℕ) (xs : List Name) → is_some (position_from test n xs) ≡ list_any test xs
some_from test n [] = refl
some_from test n (x ∷ xs) =
    elim (cases_Bool (test x)) [
      | inl t ↦ ap is_some (cond-true (test x) (Some n) _ t) ∙ sym (ap (λ b. b || list_any test xs) t)
      | inr f ↦ ap is_some (cond-false (test x) (Some n) _ f) ∙ some_from test (n + 1) xs ∙ sym (ap (λ b. b || list_any test xs) f)
    ]

-- a name has a place where it stands in the list
pub has_place : (xs : List Name) (s : Name) → is_some (place_of xs s) ≡ has same_name xs s
has_place xs s =
    ap is_some (position_from-zero (same_name s) xs) ∙ some_from (same_name s) 0 xs ∙ sym (has-flip same_name nat_list_eq_equiv xs s)

pub suffix_at : (xs : List Name) (s : Name) (p : ℕ) → All (λ x. is_suffix x ≡ true) xs → place_of xs s ≡ Some p → is_suffix s ≡ true
suffix_at xs s p all h = let r = place_is xs s p h in subst (λ (x : Name). is_suffix x ≡ true) r.1 (all p [] r.0)

some_of : {A : Type 0} (o : Option A) → is_some o ≡ true → (x : A) × (o ≡ Some x)
some_of None h = absurd (both_ways _ refl h)
some_of (Some x) h = (x, refl)

pub suffix_in : (xs : List Name) (s : Name) → All (λ x. is_suffix x ≡ true) xs → IsTrue (has same_name xs s) → is_suffix s ≡ true
suffix_in xs s all h =
    let r = some_of (place_of xs s) (has_place xs s ∙ h) in suffix_at xs s r.0 all r.1

-- the name at a place has its place there or before
from_before : (n : ℕ) (xs : List Name) (k : ℕ) → k < length xs → (j : ℕ) × (position_from (same_name (name_at xs k)) n xs ≡ Some (n + j)) × (j ≤ k)
from_before n [] k h = absurd (omega (arith, h))
from_before n (x ∷ xs) zero h = (0, cond-true (same_name x x) (Some n) _ (name_is_exact.itself x) ∙ ap Some (omega arith), omega arith)
from_before n (x ∷ xs) (suc k) h =
    elim (cases_Bool (same_name (name_at xs k) x)) [
      | inl t ↦ (0, cond-true (same_name (name_at xs k) x) (Some n) _ t ∙ ap Some (omega arith), omega arith)
      | inr f ↦ let r = from_before (n + 1) xs k (omega (arith, h)) in (suc r.0, cond-false (same_name (name_at xs k) x) (Some n) _ f ∙ r.1 ∙ ap Some (omega arith), omega (arith, r.2))
    ]

pub place_before : (xs : List Name) (k : ℕ) → k < length xs → (j : ℕ) × (place_of xs (name_at xs k) ≡ Some j) × (j ≤ k)
place_before xs k h =
    let r = from_before 0 xs k h in
    (r.0, position_from-zero (same_name (name_at xs k)) xs ∙ r.1 ∙ ap Some (omega arith), r.2)

find_at : (test : Name → Bool) (xs : List Name) (n : ℕ) → n < length xs → test (name_at xs n) ≡ true → ((k : ℕ) → k < n → test (name_at xs k) ≡ false) → find test xs ≡ Some (name_at xs n)
find_at test [] n h t before = absurd (omega (arith, h))
find_at test (x ∷ xs) zero h t before = cond-true (test x) (Some x) _ t
find_at test (x ∷ xs) (suc n) h t before =
    cond-false (test x) (Some x) _ (before 0 (omega arith)) ∙ find_at test xs n (omega (arith, h)) t (λ k l. before (suc k) (omega (arith, l)))

find_nowhere : (test : Name → Bool) (xs : List Name) → ((k : ℕ) → k < length xs → test (name_at xs k) ≡ false) → find test xs ≡ None
find_nowhere test [] h = refl
find_nowhere test (x ∷ xs) h = cond-false (test x) (Some x) _ (h 0 (omega arith)) ∙ find_nowhere test xs (λ k l. h (suc k) (omega (arith, l)))

-- the first suffix that passes a test stands at the least place of one
pub find_least : (xs : List Name) (test : Name → Bool) (found : Option ℕ) → IsLeastSuffix xs test found → find test xs ≡ option_map (name_at xs) found
find_least xs test None h = find_nowhere test xs (λ k l. let r = place_before xs k l in h (name_at xs k) r.0 r.1)
find_least xs test (Some n) h =
    let at = place_is xs h.0 n h.1 in
    find_at test xs n at.0 (ap test at.1 ∙ h.2) (λ k l. let r = place_before xs k (omega (arith, l, at.0)) in h.3 (name_at xs k) r.0 r.1 (omega (arith, r.2, l)))

-- from the least number that passes a test of places to the least place
pub least_suffix : (xs : List Name) (test : Name → Bool) (at : ℕ → Bool) → ((s : Name) (p : ℕ) → place_of xs s ≡ Some p → at p ≡ test s) → ((p : ℕ) → IsTrue (at p) → (s : Name) × (place_of xs s ≡ Some p))
    → (found : Option ℕ) → IsLeast at found → IsLeastSuffix xs test found
least_suffix xs test at same placed None h = λ s p e. sym (same s p e) ∙ h p
least_suffix xs test at same placed (Some n) h =
    let s = placed n h.0 in
    (s.0, s.1, sym (same s.0 n s.1) ∙ h.0, λ r p e l. sym (same r p e) ∙ h.1 p l)
