-- The first place of a name that passes.
use Rattle.std.proofs.Common.{Bor, slice_get, ◌≡◌, ◌<◌, ◌≤◌, ◌+◌, ◌&&◌, ◌||◌, ℕ, Bool, true, false, not, cond, ltb, List, [], ◌∷◌, Option, None, Some, Ordering, Less, Equal, Greater, length, get_or, map, min, refl, sym, ap, subst, ◌∙◌, arith, inl, inr}
use Rattle.std.specs.Cmp.Lexicographic.{nat_list_cmp_total, nat_list_eq_equiv, same_text, slice_cmp, texts_ties}
use Rattle.std.specs.List.{HoldsAt, position_or_len}
use Rattle.std.specs.List.Sorted.{IsPartitionedBy, IsPartitionPoint, IsStrictlySortedBy}
use Rattle.std.specs.Option.{MatchOption, option_copied, option_map}
use Rattle.std.specs.Ordering.{is_eq, is_lt, nat_cmp}
use Rattle.std.proofs.lemmas.Bool.{and_left, and_parts, and_right, cases_Bool, cases_lt, cases_order, cond-true, cond-false, false≢true, false_from_ne_true, le-ltb, lt-ltb, ltb-true}
use Rattle.std.proofs.lemmas.List.{get_or-map, length-map}
use Rattle.std.proofs.lemmas.Option.{slice_get-map, slice_get_past, slice_get_read}
use Rattle.std.proofs.lemmas.List.Sums.{position_or_len_is}
use Rattle.std.proofs.lemmas.Map.Keys.{Less-from_sorted}
use Rattle.mk_name.specs.Names.{Name, same_name}
use Rattle.mk_path.specs.Ranges.{first_place, is_before, is_below_bound, is_between, past_own, stands_at}

place_alike : {X : Type 0} (p q : X → Bool) → ((x : X) → p x ≡ q x) → (xs : List X) → position_or_len p xs ≡ position_or_len q xs
place_alike p q same [] = refl
place_alike p q same (x ∷ xs) =
    ap (λ b. cond (not b) (1 + position_or_len p xs) 0) (same x) ∙ ap (λ n. cond (not (q x)) (1 + n) 0) (place_alike p q same xs)

place_nowhere : {X : Type 0} (p : X → Bool) → ((x : X) → p x ≡ false) → (xs : List X) → position_or_len p xs ≡ length xs
place_nowhere p none [] = refl
place_nowhere p none (x ∷ xs) =
    let later = place_nowhere p none xs in
    ap (λ b. cond (not b) (1 + position_or_len p xs) 0) (none x) ∙ omega (arith, later)

place_either : {X : Type 0} (p q : X → Bool) (xs : List X) → position_or_len (λ x. p x || q x) xs ≡ min (position_or_len p xs) (position_or_len q xs)
place_either p q [] = refl
place_either p q (x ∷ xs) = by (p x) (q x) (position_or_len (λ y. p y || q y) xs) (position_or_len p xs) (position_or_len q xs) (place_either p q xs)
  where
    by : (a b : Bool) (k m n : ℕ) → k ≡ min m n → cond (not (a || b)) (1 + k) 0 ≡ min (cond (not a) (1 + m) 0) (cond (not b) (1 + n) 0)
    by true true k m n e = omega arith
    by true false k m n e = omega arith
    by false true k m n e = omega arith
    by false false k m n e = omega (arith, e)

and_either : (n a b : Bool) → (n && (a || b)) ≡ ((n && a) || (n && b))
and_either true a b = refl
and_either false a b = refl

module _ (own : Name) (names : List Name) where
  pub first_alike : (f g : Name → Bool) → ((x : Name) → f x ≡ g x) → first_place f own names ≡ first_place g own names
  first_alike f g same =
      place_alike (λ x. not (same_name own x) && f x) (λ x. not (same_name own x) && g x) (λ x. ap (λ b. not (same_name own x) && b) (same x)) names

  pub first_nowhere : (f : Name → Bool) → ((x : Name) → f x ≡ false) → first_place f own names ≡ length names
  first_nowhere f none =
      place_nowhere (λ x. not (same_name own x) && f x) (λ x. and_right (not (same_name own x)) (f x) (none x)) names

  pub first_either : (f g : Name → Bool) → first_place (λ x. f x || g x) own names ≡ min (first_place f own names) (first_place g own names)
  first_either f g =
      place_alike (λ x. not (same_name own x) && (f x || g x)) (λ x. (not (same_name own x) && f x) || (not (same_name own x) && g x)) (λ x. and_either (not (same_name own x)) (f x) (g x)) names
      ∙ place_either (λ x. not (same_name own x) && f x) (λ x. not (same_name own x) && g x) names

-- the order of names
pub less_from : (o : Ordering) → is_lt o ≡ true → o ≡ Less
less_from Less h = refl
less_from Equal h = absurd (false≢true h)
less_from Greater h = absurd (false≢true h)

-- what is lower than a name before a bound is before it too
before_lower : (bound x y : Name) → slice_cmp nat_cmp x y ≡ Less → is_before bound y ≡ true → is_before bound x ≡ true
before_lower bound x y less h =
    ap is_lt (nat_list_cmp_total.trans x y bound less (less_from (slice_cmp nat_cmp y bound) h))

-- of names that rise those before a bound come first
before_closed : (names : List Name) (bound : Name) → IsStrictlySortedBy (slice_cmp nat_cmp) names → (i j : ℕ) → i ≤ j → j < length names
    → is_before bound (get_or names j []) ≡ true → is_before bound (get_or names i []) ≡ true
before_closed names bound rising i j le inside h = elim (cases_order i j) [
  | inl same ↦ subst (λ (k : ℕ). is_before bound (get_or names k []) ≡ true) (sym same) h
  | inr (inl less) ↦ before_lower bound (get_or names i []) (get_or names j []) (Less-from_sorted (slice_cmp nat_cmp) names i j [] rising less inside) h
  | inr (inr more) ↦ absurd (omega (arith, more, le))
]

pub before_parts : {X : Type 0} (v : X → Name) (xs : List X) (bound : Name) → IsStrictlySortedBy (slice_cmp nat_cmp) (map v xs)
    → IsPartitionedBy (λ y. is_before bound (v y)) xs
before_parts v xs bound rising i j d le inside h =
    let there : (k : ℕ) → k < length xs → get_or (map v xs) k [] ≡ v (get_or xs k d) = λ k below. get_or-map v xs k d [] below in
    ap (is_before bound) (sym (there i (omega arith)))
    ∙ before_closed (map v xs) bound rising i j le (omega (arith, length-map xs v)) (ap (is_before bound) (there j inside) ∙ h)

-- the place that a search by halves gives
pub from_point : {X : Type 0} (v : X → Name) (xs : List X) (bound : Name) (i : ℕ) (d : X) → i ≤ length xs
    → IsPartitionPoint (λ y. is_before bound (v y) ≡ true) (λ y. is_before bound (v y) ≡ false) xs i
    → ((k : ℕ) → k < i → is_before bound (get_or (map v xs) k []) ≡ true)
    × ((k : ℕ) → i ≤ k → k < length xs → not (is_before bound (get_or (map v xs) k [])) ≡ true)
from_point v xs bound i d within point = (
  λ k less. ap (is_before bound) (get_or-map v xs k d [] (omega arith)) ∙ point.0 k d (omega arith) less,
  λ k le less. ap (λ y. not (is_before bound y)) (get_or-map v xs k d [] less) ∙ ap not (point.1 k d le less),
)

-- a name stands at a place and passes
stands : (names : List Name) (place : ℕ) (test : Name → Bool) → place < length names → stands_at names place test ≡ test (get_or names place [])
stands names place test below = ap (λ b. b && test (get_or names place [])) (lt-ltb place (length names) below)

stands_not : (names : List Name) (place : ℕ) (test : Name → Bool) → length names ≤ place → stands_at names place test ≡ false
stands_not names place test past = ap (λ b. b && test (get_or names place [])) (le-ltb place (length names) past)

module _ (own low : Name) (high : Option Name) (names : List Name) (rising : IsStrictlySortedBy (slice_cmp nat_cmp) names) (start : ℕ)
    (within : start ≤ length names)
    (before : (k : ℕ) → k < start → is_before low (get_or names k []) ≡ true)
    (after : (k : ℕ) → start ≤ k → k < length names → not (is_before low (get_or names k [])) ≡ true) where
  passes : Name → Bool
  passes x = not (same_name own x) && is_between low high x

  -- what stands at a later place than the own name is another name
  not_own : (k : ℕ) → start < k → k < length names → same_name own (get_or names start []) ≡ true → same_name own (get_or names k []) ≡ false
  not_own k later inside h = false_from_ne_true (same_name own (get_or names k [])) (λ again.
      let less = Less-from_sorted (slice_cmp nat_cmp) names start k [] rising later inside in
      let equal : get_or names start [] ≡ get_or names k [] = sym (same_text own (get_or names start []) (sym h)) ∙ same_text own (get_or names k []) (sym again) in
      let tied : is_eq (slice_cmp nat_cmp (get_or names start []) (get_or names k [])) ≡ true =
      sym (texts_ties (get_or names start []) (get_or names k [])) ∙ ap (same_name (get_or names start [])) (sym equal) ∙ nat_list_eq_equiv.refl (get_or names start []) in
      false≢true (sym (ap is_eq less) ∙ tied))

  early : (k : ℕ) → k < start → passes (get_or names k []) ≡ false
  unfolding passes
  early k less =
      let x = get_or names k [] in
      and_right (not (same_name own x)) (is_between low high x)
      (and_left (not (is_before low x)) (is_below_bound high x) (ap not (before k less)))

  -- the first name that passes stands at the place, or none does
  module _ (place : ℕ) (from : start ≤ place) (inside : place ≤ length names)
      (others : (k : ℕ) → start ≤ k → k < place → same_name own (get_or names k []) ≡ true)
      (another : place < length names → same_name own (get_or names place []) ≡ false) where
    before_place : (k : ℕ) → k < place → passes (get_or names k []) ≡ false
    unfolding passes
    before_place k less = elim (cases_lt k start) [
      | inl earlier ↦ early k earlier
      | inr later ↦ let x = get_or names k [] in and_left (not (same_name own x)) (is_between low high x) (ap not (others k later less))
    ]

    at_place : place < length names → is_below_bound high (get_or names place []) ≡ true → passes (get_or names place []) ≡ true
    unfolding passes
    at_place less low_enough =
        let x = get_or names place [] in
        ap (λ b. not b && is_between low high x) (another less) ∙ ap (λ b. b && is_below_bound high x) (after place from less) ∙ low_enough

    -- what is past the upper bound stays past it
    too_high : is_below_bound high (get_or names place []) ≡ false → (k : ℕ) → place ≤ k → k < length names → is_below_bound high (get_or names k []) ≡ false
    too_high = by high
      where
        by : (bound : Option Name) → is_below_bound bound (get_or names place []) ≡ false → (k : ℕ) → place ≤ k → k < length names → is_below_bound bound (get_or names k []) ≡ false
        by None h k le less = absurd (false≢true (sym h))
        by (Some b) h k le less = false_from_ne_true (is_before b (get_or names k [])) (λ below. false≢true (sym h ∙ before_closed names b rising place k le less below))

    beyond : is_below_bound high (get_or names place []) ≡ false → (k : ℕ) → place ≤ k → k < length names → passes (get_or names k []) ≡ false
    unfolding passes
    beyond h k le less =
        let x = get_or names k [] in
        and_right (not (same_name own x)) (is_between low high x) (and_right (not (is_before low x)) (is_below_bound high x) (too_high h k le less))

    found_place : cond (stands_at names place (is_below_bound high)) place (length names) ≡ position_or_len passes names
    found_place = elim (cases_lt place (length names)) [
      | inl less ↦ elim (cases_Bool (is_below_bound high (get_or names place []))) [
        | inl low_enough ↦
            cond-true (stands_at names place (is_below_bound high)) place (length names) (stands names place (is_below_bound high) less ∙ low_enough)
            ∙ sym (position_or_len_is passes names place [] inside before_place (λ _. at_place less low_enough))
        | inr too ↦
            cond-false (stands_at names place (is_below_bound high)) place (length names) (stands names place (is_below_bound high) less ∙ too)
            ∙ sym (position_or_len_is passes names (length names) [] (omega arith)
            (λ k below. elim (cases_lt k place) [ inl earlier ↦ before_place k earlier | inr later ↦ beyond too k later below ])
            (λ never. absurd (omega (arith, never))))
      ]
      | inr past ↦
          cond-false (stands_at names place (is_below_bound high)) place (length names) (stands_not names place (is_below_bound high) past)
          ∙ sym (position_or_len_is passes names (length names) [] (omega arith) (λ k below. before_place k (omega (arith, past)))
          (λ never. absurd (omega (arith, never))))
    ]

  pub first_in_range : let place = past_own names own start in
      cond (stands_at names place (is_below_bound high)) place (length names) ≡ first_place (is_between low high) own names
  unfolding passes
  first_in_range = elim (cases_Bool (stands_at names start (same_name own))) [
    | inl there ↦
        let less = ltb-true start (length names) (and_parts (ltb start (length names)) (same_name own (get_or names start [])) there).0 in
        let same = (and_parts (ltb start (length names)) (same_name own (get_or names start [])) there).1 in
        ap (λ n. cond (stands_at names n (is_below_bound high)) n (length names)) (cond-true (stands_at names start (same_name own)) (start + 1) start there)
        ∙ found_place (start + 1) (omega arith) (omega (arith, less))
        (λ k le below. subst (λ (n : ℕ). same_name own (get_or names n []) ≡ true) (omega (arith, le, below)) same)
        (λ inside. not_own (start + 1) (omega arith) inside same)
    | inr other ↦
        ap (λ n. cond (stands_at names n (is_below_bound high)) n (length names)) (cond-false (stands_at names start (same_name own)) (start + 1) start other)
        ∙ found_place start (omega arith) within (λ k le below. absurd (omega (arith, le, below)))
        (λ inside. sym (stands names start (same_name own) inside) ∙ other)
  ]

-- what a look-up gives by reference
pub got : {X : Type 0} (v : X → Name) (xs : List X) (i : ℕ) (r : Option (Bor X))
    → MatchOption r (length xs ≤ i) (λ x. (i < length xs) × HoldsAt (λ y. x.now ≡ y) xs i)
    → option_map v (option_copied r) ≡ slice_get (map v xs) i
got v xs i None past = sym (slice_get_past (map v xs) i (omega (arith, length-map xs v, past)))
got v xs i (Some x) found =
    sym (slice_get-map v xs i ∙ ap (option_map v) (slice_get_read xs (length xs) i x.now refl found.0 (found.1 x.now)))
