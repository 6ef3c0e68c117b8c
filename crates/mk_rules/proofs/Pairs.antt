-- Names that are two suffixes, joined.
use Rattle.std.proofs.Common.{◌≡◌, ℕ, ◌+◌, ◌<◌, Bool, true, false, not, ◌&&◌, ◌||◌, ◌==◌, cond, List, [], ◌∷◌, ◌++◌, None, Some, refl, sym, ◌∙◌, ap, subst, inl, inr, arith, length, get_or, take, drop, position}
use Rattle.std.proofs.lemmas.Bool.{and_from, and_parts, both_ways, cases_Bool, not-true, not_from_false, or_parts, false_from_ne_true}
use Rattle.std.proofs.lemmas.Iterator.Adapters.{position_from-zero}
use Rattle.std.proofs.lemmas.List.Folds.{Any-from_list_any, list_any_at, list_any-from_Any}
use Rattle.std.proofs.lemmas.List.{take-append-drop}
use Rattle.std.proofs.Math.Seq.{take-append_seam, drop-append_seam}
use Rattle.std.specs.Cmp.Lexicographic.{nat_list_eq_equiv}
use Rattle.std.specs.List.{All, Any, list_any, position_from}
use Rattle.mk_name.specs.Names.{Name, same_name, has}
use Rattle.mk_rules.specs.Special.{is_pair, is_suffix}
use Rattle.mk_rules.proofs.Firsts.{same_name-true}

abbrev pub is_period : ℕ → Bool
is_period b = b == 46

-- a test that says more finds less
none_weaker : (bs : List ℕ) → list_any (λ b. b == 46 || b == 47) bs ≡ false → list_any is_period bs ≡ false
none_weaker [] h = refl
none_weaker (b ∷ bs) h =
    let parts = or_parts (b == 46 || b == 47) _ h in
    let here = or_parts (b == 46) (b == 47) parts.0 in
    ap (λ t. t || list_any is_period bs) here.0 ∙ none_weaker bs parts.1

first_from : (k : ℕ) (front bs : List ℕ) (b : ℕ) → list_any is_period front ≡ false → is_period b ≡ true → position_from is_period k (front ++ b ∷ bs) ≡ Some (k + length front)
first_from k [] bs b none here = ap (λ t. cond t (Some k) (position_from is_period (k + 1) bs)) here ∙ ap Some (omega arith)
first_from k (a ∷ front) bs b none here =
    let parts = or_parts (is_period a) _ none in
    ap (λ t. cond t (Some k) (position_from is_period (k + 1) (front ++ b ∷ bs))) parts.0 ∙ first_from (k + 1) front bs b parts.1 here ∙ ap Some (omega arith)

-- the first period stands behind the bytes before it
first_period : (front bs : List ℕ) (b : ℕ) → list_any is_period front ≡ false → is_period b ≡ true → position is_period (front ++ b ∷ bs) ≡ Some (length front)
first_period front bs b none here = position_from-zero is_period (front ++ b ∷ bs) ∙ first_from 0 front bs b none here ∙ ap Some (omega arith)

-- two suffixes, joined, are parted at the second period
parted : (a b : Name) → is_suffix a ≡ true → is_suffix b ≡ true
    → (k : ℕ) × (position is_period (drop 1 (a ++ b)) ≡ Some k) × (take (k + 1) (a ++ b) ≡ a) × (drop (k + 1) (a ++ b) ≡ b)
parted [] b h k = absurd (both_ways _ refl h)
parted (x ∷ front) [] h k = absurd (both_ways _ refl k)
parted (x ∷ front) (y ∷ bs) h k =
    let first = and_parts (x == 46) _ h in
    let tail = and_parts (not (length front == 0)) _ first.1 in
    let second = and_parts (y == 46) _ k in
    let long : length front + 1 ≡ length (x ∷ front) = omega arith in (
      length front,
      first_period front bs y (none_weaker front (not-true _ tail.1)) second.0,
      ap (λ n. take n ((x ∷ front) ++ y ∷ bs)) long ∙ take-append_seam (x ∷ front) (y ∷ bs),
      ap (λ n. drop n ((x ∷ front) ++ y ∷ bs)) long ∙ drop-append_seam (x ∷ front) (y ∷ bs),
    )

-- it is two different suffixes of the list, joined
record IsPair (suffixes : List Name) (t a b : Name) : Type 0 where
  first : is_suffix a ≡ true
  second : is_suffix b ≡ true
  has_first : has same_name suffixes a ≡ true
  has_second : has same_name suffixes b ≡ true
  differ : same_name a b ≡ false
  joined : t ≡ a ++ b

has_at : (suffixes : List Name) (i : ℕ) (a : Name) → i < length suffixes → get_or suffixes i a ≡ a → has same_name suffixes a ≡ true
has_at suffixes i a within at = list_any_at (λ y. same_name y a) suffixes i a within (ap (λ y. same_name y a) at ∙ nat_list_eq_equiv.refl a)

pair_parts : (suffixes : List Name) (t : Name) → All (λ s. is_suffix s ≡ true) suffixes → is_pair suffixes t ≡ true → (a : Name) × (b : Name) × IsPair suffixes t a b
pair_parts suffixes t all h =
    let outer : Any (λ a. list_any (λ b. not (same_name a b) && same_name t (a ++ b)) suffixes ≡ true) suffixes = Any-from_list_any _ suffixes h in
    let a = outer.1 in
    let inner : Any (λ b. (not (same_name a b) && same_name t (a ++ b)) ≡ true) suffixes = Any-from_list_any _ suffixes outer.4 in
    let b = inner.1 in
    let both = and_parts (not (same_name a b)) _ inner.4 in (
      a,
      b,
      record {
        first = subst (λ (s : Name). is_suffix s ≡ true) outer.3 (all outer.0 a outer.2);
        second = subst (λ (s : Name). is_suffix s ≡ true) inner.3 (all inner.0 b inner.2);
        has_first = has_at suffixes outer.0 a outer.2 outer.3;
        has_second = has_at suffixes inner.0 b inner.2 inner.3;
        differ = not-true _ both.0;
        joined = same_name-true t (a ++ b) both.1;
      },
    )

-- the two parts of a name are different suffixes of the list
abbrev pub parts_are : List Name → Name → ℕ → Bool
parts_are suffixes t cut = not (same_name (take cut t) (drop cut t)) && has same_name suffixes (take cut t) && has same_name suffixes (drop cut t)

from_has : (suffixes : List Name) (a : Name) → has same_name suffixes a ≡ true → (i : ℕ) × (i < length suffixes) × (get_or suffixes i a ≡ a)
from_has suffixes a h =
    let found : Any (λ y. same_name y a ≡ true) suffixes = Any-from_list_any _ suffixes h in
    let same : found.1 ≡ a = same_name-true _ _ found.4 in
    (found.0, found.2, subst (λ (y : Name). get_or suffixes found.0 y ≡ y) same found.3)

parts_pair : (suffixes : List Name) (t : Name) (cut : ℕ) → parts_are suffixes t cut ≡ true → is_pair suffixes t ≡ true
parts_pair suffixes t cut h =
    let both = and_parts (not (same_name (take cut t) (drop cut t)) && has same_name suffixes (take cut t)) _ h in
    let front = and_parts (not (same_name (take cut t) (drop cut t))) _ both.0 in
    let a = from_has suffixes (take cut t) front.1 in
    let b = from_has suffixes (drop cut t) both.1 in
    let same : same_name t (take cut t ++ drop cut t) ≡ true = rw take-append-drop (nat_list_eq_equiv.refl t) in
    list_any-from_Any _ suffixes
    (a.0, take cut t, a.1, a.2, list_any-from_Any _ suffixes (b.0, drop cut t, b.1, b.2, and_from _ _ front.0 same))

equal_tests : (a b : Bool) → (a ≡ true → b ≡ true) → (b ≡ true → a ≡ true) → a ≡ b
equal_tests a b there back =
    elim (cases_Bool a) [
      | inl t ↦ t ∙ sym (there t)
      | inr f ↦ f ∙ sym (false_from_ne_true b (λ h. both_ways a f (back h)))
    ]

pub pair_none : (suffixes : List Name) (t : Name) → All (λ s. is_suffix s ≡ true) suffixes → position is_period (drop 1 t) ≡ None → false ≡ is_pair suffixes t
pair_none suffixes t all none =
    sym (false_from_ne_true _ (λ h.
    let p = pair_parts suffixes t all h in
    let at = parted p.0 p.1 p.2.first p.2.second in
    let clash : None ≡ Some at.0 = sym none ∙ ap (λ n. position is_period (drop 1 n)) p.2.joined ∙ at.1 in
    cc))

pub pair_some : (suffixes : List Name) (t : Name) (place : ℕ) → All (λ s. is_suffix s ≡ true) suffixes → position is_period (drop 1 t) ≡ Some place
    → parts_are suffixes t (place + 1) ≡ is_pair suffixes t
pair_some suffixes t place all here = equal_tests _ _ (parts_pair suffixes t (place + 1)) back
  where
    back : is_pair suffixes t ≡ true → parts_are suffixes t (place + 1) ≡ true
    back h =
        let p = pair_parts suffixes t all h in
        let at = parted p.0 p.1 p.2.first p.2.second in
        let same_place : Some place ≡ Some at.0 = sym here ∙ ap (λ n. position is_period (drop 1 n)) p.2.joined ∙ at.1 in
        let place-is : place ≡ at.0 = cc in
        let left : take (place + 1) t ≡ p.0 = ap (λ n. take (place + 1) n) p.2.joined ∙ ap (λ n. take (n + 1) (p.0 ++ p.1)) place-is ∙ at.2 in
        let right : drop (place + 1) t ≡ p.1 = ap (λ n. drop (place + 1) n) p.2.joined ∙ ap (λ n. drop (n + 1) (p.0 ++ p.1)) place-is ∙ at.3 in
        let differ : not (same_name (take (place + 1) t) (drop (place + 1) t)) ≡ true = ap (λ x. not (same_name x (drop (place + 1) t))) left ∙ ap (λ y. not (same_name p.0 y)) right ∙ not_from_false _ p.2.differ in
        and_from _ _ (and_from _ _ differ (ap (has same_name suffixes) left ∙ p.2.has_first)) (ap (has same_name suffixes) right ∙ p.2.has_second)
