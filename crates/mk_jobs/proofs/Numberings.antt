-- Names and their numbers.
use Rattle.std.proofs.Common.{◌≡◌, ℕ, zero, suc, ◌+◌, ◌<◌, Bool, true, false, cond, List, [], ◌∷◌, ◌++◌, length, get_or, take, sym, ◌∙◌, ap, subst, inl, inr, refl, arith, append_assoc, length-append, Some, None, Option}
use Rattle.std.specs.Prelude.{◌||◌, IsTrue, OnErr, Ok, Err, Result, nat_eq, map, position}
use Rattle.std.specs.List.{list_any, position_from, AllByRecursion}
use Rattle.std.specs.List as std
use Rattle.std.specs.Cmp.Lexicographic.{nat_list_eq_equiv}
use Rattle.std.proofs.lemmas.Bool.{cases_Bool, both_ways, or_parts, or_right, cond-true, cond-false, false_from_ne_true}
use Rattle.std.proofs.lemmas.List.{append-nil, map_push, take_more, get_or_append_left, get_or-append-add}
use Rattle.std.proofs.lemmas.List.Quantifiers.{position-Some}
use Rattle.std.proofs.lemmas.Iterator.Adapters.{position_from-zero}
use Rattle.indexmap.specs.IndexSet.{insert_key}
use Rattle.mk_name.specs.Names.{Name, same_name, has, kept, IsDistinct}
use Rattle.mk_name.proofs.Names.{name_is_exact, nat_is_exact, in_head, in_tail, kept-append, kept_new, kept_old, in_push_cases}
use Rattle.mk_jobs.specs.Numbered.{name_at, number_of, HasFirst, Stand}

from_other : (test : Name → Bool) (n : ℕ) (xs : List Name) (x : Name) → test x ≡ false → position_from test n (xs ++ x ∷ []) ≡ position_from test n xs
from_other test n [] x h = cond-false (test x) _ _ h
from_other test n (y ∷ ys) x h = ap (λ o. cond (test y) (Some n) o) (from_other test (n + 1) ys x h)

from_new : (test : Name → Bool) (n : ℕ) (xs : List Name) (x : Name) → list_any test xs ≡ false → test x ≡ true → position_from test n (xs ++ x ∷ []) ≡ Some (n + length xs)
from_new test n [] x f t = cond-true (test x) _ _ t ∙ ap Some (omega arith)
from_new test n (y ∷ ys) x f t =
    let parts = or_parts _ _ f in
    cond-false (test y) _ _ parts.0 ∙ from_new test (n + 1) ys x parts.1 t ∙ ap Some (omega arith)

from_none : (test : Name → Bool) (n : ℕ) (xs : List Name) → position_from test n xs ≡ None → list_any test xs ≡ false
from_none test n [] h = refl
from_none test n (y ∷ ys) h =
    elim (cases_Bool (test y)) [
      | inl t ↦ absurd (let e : Some n ≡ None = sym (cond-true (test y) (Some n) _ t) ∙ h in cc)
      | inr f ↦ ap (λ b. b || list_any test ys) f ∙ from_none test (n + 1) ys (sym (cond-false (test y) (Some n) _ f) ∙ h)
    ]

number_from : (names : List Name) (x : Name) → number_of names x ≡ position_from (λ y. same_name y x) 0 names
number_from names x = position_from-zero (λ y. same_name y x) names

pub number_none : (names : List Name) (x : Name) → number_of names x ≡ None → has same_name names x ≡ false
number_none names x h = from_none (λ y. same_name y x) 0 names (sym (number_from names x) ∙ h)

pub number_some : (names : List Name) (x : Name) (n : ℕ) → number_of names x ≡ Some n → (n < length names) × (name_at names n ≡ x)
number_some names x n h =
    let p = position-Some (λ y. same_name y x) names n [] h in
    (p.0, name_is_exact.equal (name_at names n) x p.1)

pub number_push : (names : List Name) (x y : Name) → has same_name names x ≡ false → number_of (names ++ x ∷ []) y ≡ cond (same_name x y) (Some (length names)) (number_of names y)
number_push names x y absent =
    elim (cases_Bool (same_name x y)) [
      | inl t ↦ number_from (names ++ x ∷ []) y ∙ from_new (λ z. same_name z y) 0 names x (subst (λ (z : Name). has same_name names z ≡ false) (name_is_exact.equal x y t) absent) t ∙ ap Some (omega arith) ∙ sym (cond-true (same_name x y) _ _ t)
      | inr f ↦ number_from (names ++ x ∷ []) y ∙ from_other (λ z. same_name z y) 0 names x f ∙ sym (number_from names y) ∙ sym (cond-false (same_name x y) _ _ f)
    ]

pub has_at : (names : List Name) (i : ℕ) → i < length names → IsTrue (has same_name names (name_at names i))
has_at [] i h = absurd (omega arith)
has_at (x ∷ xs) zero h = ap (λ b. b || has same_name xs x) (name_is_exact.itself x)
has_at (x ∷ xs) (suc i) h = or_right (same_name x (name_at xs i)) _ (has_at xs i (omega arith))

-- a name that is there has its number
pub number_at : (names : List Name) (i : ℕ) → IsDistinct same_name names → i < length names → number_of names (name_at names i) ≡ Some i
number_at names i d h = number_from names (name_at names i) ∙ go 0 names i d h ∙ ap Some (omega arith)
  where
    go : (n : ℕ) (xs : List Name) (k : ℕ) → IsDistinct same_name xs → k < length xs → position_from (λ y. same_name y (name_at xs k)) n xs ≡ Some (n + k)
    go n [] k d h = absurd (omega arith)
    go n (x ∷ xs) zero d h = cond-true (same_name x x) _ _ (name_is_exact.itself x) ∙ ap Some (omega arith)
    go n (x ∷ xs) (suc k) d h =
        cond-false (same_name x (name_at xs k)) _ _ (false_from_ne_true _ (λ t. both_ways _ d.0 (subst (λ (z : Name). IsTrue (has same_name xs z)) (sym (name_is_exact.equal x (name_at xs k) t)) (has_at xs k (omega arith)))))
        ∙ go (n + 1) xs k d.1 (omega arith) ∙ ap Some (omega arith)

pub name_at_push : (names more : List Name) (i : ℕ) → i < length names → name_at (names ++ more) i ≡ name_at names i
name_at_push names more i h = get_or_append_left names more [] i h

-- the numbers stand for the names also after more names
pub stand_more : (names more : List Name) (numbers : List ℕ) (some : List Name) → Stand names numbers some → Stand (names ++ more) numbers some
stand_more names more numbers some s =
    record {
      within = λ n h. let a = s.within n h in omega (arith, length-append names more);
      names_are = map_agree numbers (λ n h. name_at_push names more n (s.within n h)) ∙ s.names_are;
    }
  where
    map_agree : (ns : List ℕ) → ((n : ℕ) → IsTrue (has nat_eq ns n) → name_at (names ++ more) n ≡ name_at names n) → map (name_at (names ++ more)) ns ≡ map (name_at names) ns
    map_agree [] h = refl
    map_agree (n ∷ ns) h = ap (λ z. z ∷ map (name_at (names ++ more)) ns) (h n (in_head nat_eq nat_is_exact n ns)) ∙ ap (λ zs. name_at names n ∷ zs) (map_agree ns (λ k i. h k (in_tail nat_eq nat_is_exact n k ns i)))

-- what is kept begins with what was there
pub kept_grows : (front xs : List Name) → (more : List Name) × (kept same_name front xs ≡ front ++ more)
kept_grows front [] = ([], sym (append-nil front))
kept_grows front (x ∷ xs) =
    elim (cases_Bool (has same_name front x)) [
      | inl t ↦ let r = kept_grows front xs in (r.0, kept_old same_name name_is_exact front x xs t ∙ r.1)
      | inr f ↦ let r = kept_grows (front ++ x ∷ []) xs in (x ∷ r.0, kept_new same_name name_is_exact front x xs f ∙ r.1 ∙ append_assoc front (x ∷ []) r.0)
    ]

pub stand_kept : (front xs : List Name) (numbers : List ℕ) (some : List Name) → Stand front numbers some → Stand (kept same_name front xs) numbers some
stand_kept front xs numbers some s =
    let g = kept_grows front xs in
    subst (λ (ns : List Name). Stand ns numbers some) (sym g.1) (stand_more front g.0 numbers some s)

-- one more number for one more name
pub stand_push : (names : List Name) (numbers : List ℕ) (some : List Name) (n : ℕ) (x : Name) → Stand names numbers some → n < length names → name_at names n ≡ x → Stand names (numbers ++ n ∷ []) (some ++ x ∷ [])
stand_push names numbers some n x s h e =
    record {
      within = λ k i. elim (in_push_cases nat_eq nat_is_exact numbers n k i) [ inl j ↦ s.within k j | inr q ↦ subst (λ (m : ℕ). m < length names) q h ];
      names_are = map_push (name_at names) numbers n ∙ ap (λ zs. zs ++ name_at names n ∷ []) s.names_are ∙ ap (λ z. some ++ z ∷ []) e;
    }

-- a step of putting all names of a list
pub put_kept : (old some : List Name) (names new : List Name) (i : ℕ) (x : Name) → i < length some → x ≡ get_or some i x → names ≡ kept same_name old (take i some) → new ≡ kept same_name names (x ∷ []) → new ≡ kept same_name old (take (i + 1) some)
put_kept old some names new i x h e is step =
    step ∙ ap (λ ns. kept same_name ns (x ∷ [])) is ∙ sym (kept-append same_name name_is_exact old (take i some) (x ∷ []))
    ∙ ap (kept same_name old) (sym (take_more some i x h ∙ ap (λ z. take i some ++ z ∷ []) (sym e)))

pub put_stand : (some names new : List Name) (numbers : List ℕ) (i n : ℕ) (x : Name) → i < length some → x ≡ get_or some i x → new ≡ kept same_name names (x ∷ []) → n < length new → name_at new n ≡ x → Stand names numbers (take i some) → Stand new (numbers ++ n ∷ []) (take (i + 1) some)
put_stand some names new numbers i n x h e step inside is s =
    subst (λ (zs : List Name). Stand new (numbers ++ n ∷ []) zs) (sym (take_more some i x h ∙ ap (λ z. take i some ++ z ∷ []) (sym e)))
    (stand_push new numbers (take i some) n x (subst (λ (ns : List Name). Stand ns numbers (take i some)) (sym step) (stand_kept names (x ∷ []) numbers (take i some) s)) inside is)

pub stand_none : (names : List Name) → Stand names [] []
stand_none names = record { within = λ n h. absurd (both_ways _ refl h); names_are = refl }

pub number_has : (names : List Name) (x : Name) (n : ℕ) → number_of names x ≡ Some n → IsTrue (has same_name names x)
number_has names x n h = let s = number_some names x n h in subst (λ (z : Name). IsTrue (has same_name names z)) s.1 (has_at names n s.0)

pub absent_from : (names : List Name) (x : Name) (r : Option ℕ) → r ≡ number_of names x → ((n : ℕ) → r ≡ Some n → ⊥) → has same_name names x ≡ false
absent_from names x None e h = number_none names x (sym e)
absent_from names x (Some n) e h = absurd (h n refl)

-- where memory ends behind a step, the first names have been put
pub put_begun : {X E : Type 0} (result : Result X E) (old some new : List Name) (i : ℕ) → i < length some → new ≡ kept same_name old (take (i + 1) some)
    → OnErr result (HasFirst old some new)
put_begun (Ok x) old some new i h is = tt
put_begun (Err e) old some new i h is = record { count = i + 1; within = omega arith; names_are = is }

-- which of the two is compared with which does not matter
number_turned : (names : List Name) (x : Name) (n : ℕ) → position_from (same_name x) n names ≡ position_from (λ y. same_name y x) n names
number_turned [] x n = refl
number_turned (y ∷ ys) x n =
    ap (λ b. cond b (Some n) (position_from (same_name x) (n + 1) ys)) (nat_list_eq_equiv.symm x y)
    ∙ ap (cond (same_name y x) (Some n)) (number_turned ys x (n + 1))

pub number_found : (names : List Name) (x : Name) → position (same_name x) names ≡ number_of names x
number_found names x = position_from-zero (same_name x) names ∙ number_turned names x 0 ∙ sym (number_from names x)

has_turned : (names : List Name) (x : Name) → list_any (same_name x) names ≡ has same_name names x
has_turned [] x = refl
has_turned (y ∷ ys) x =
    ap (λ b. b || list_any (same_name x) ys) (nat_list_eq_equiv.symm x y) ∙ ap (λ b. same_name y x || b) (has_turned ys x)

-- a new name goes last
pub put_last : (names new : List Name) (x : Name) → has same_name names x ≡ false → new ≡ insert_key same_name names x → new ≡ names ++ x ∷ []
put_last names new x absent is = is ∙ cond-false (list_any (same_name x) names) names (names ++ x ∷ []) (has_turned names x ∙ absent)

none_same : (x : Name) (xs : List Name) → AllByRecursion (λ y. same_name x y ≡ false) xs → has same_name xs x ≡ false
none_same x [] all = refl
none_same x (y ∷ ys) all =
    ap (λ b. b || has same_name ys x) (nat_list_eq_equiv.symm y x ∙ all.0) ∙ none_same x ys all.1

-- the keys of a set differ
pub set_distinct : (names : List Name) → std.IsDistinct same_name names → IsDistinct same_name names
unfolding std.IsDistinct
set_distinct [] d = tt
set_distinct (x ∷ xs) d = (none_same x xs d.0, set_distinct xs d.1)

-- the place of a name that was put last
pub name_last : (names new : List Name) (x : Name) → new ≡ names ++ x ∷ [] → (length names < length new) × (name_at new (length names) ≡ x)
name_last names new x is =
    (let e = ap length is ∙ length-append names (x ∷ []) in omega (arith, e), ap (λ ns. name_at ns (length names)) is ∙ ap (λ i. name_at (names ++ x ∷ []) i) (let same : length names ≡ length names + 0 = omega arith in same) ∙ get_or-append-add names (x ∷ []) 0 [])
