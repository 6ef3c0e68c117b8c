-- The place of the first element that passes a test.
use Rattle.std.proofs.Common.{◌≡◌, ℕ, suc, ◌+◌, ◌-◌, ◌<◌, ◌≤◌, Bool, true, false, cond, List, [], ◌∷◌, Option, Some, get_or, None, length, take, drop, refl, sym, ◌∙◌, ap, arith, not, map}
use Rattle.std.specs.Prelude.{nat_lt, ◌||◌}
use Rattle.std.specs.List.{list_any, position, position_or_len}
use Rattle.std.proofs.lemmas.Bool.{false_from_ne_true, le-ltb, lt-ltb, ltb-false, ltb-true}
use Rattle.std.specs.Option.{is_some}
use Rattle.std.specs.Prelude.{IfSome}
use Rattle.std.proofs.lemmas.List.{take_rest, drop_all, length-map}
use Rattle.std.proofs.lemmas.List.Sums.{position_or_len_is}
use Rattle.memchr.specs.Find.{IsFirstByte}

module _ {X : Type 0} (test : X → Bool) where
  within_more : (b rest : Bool) (n m : ℕ) → rest ≡ nat_lt n m → (b || rest) ≡ nat_lt (cond (not b) (1 + n) 0) (suc m)
  within_more true rest n m e = grind arith
  within_more false rest n m e = e ∙ grind arith

  -- one passes exactly where the first place is inside
  pub any_within : (xs : List X) → list_any test xs ≡ nat_lt (position_or_len test xs) (length xs)
  any_within [] = refl
  any_within (x ∷ xs) = within_more (test x) _ _ (length xs) (any_within xs)

  none_by : (b : Bool) (n : ℕ) → cond b (Some n) None ≡ None → b ≡ false
  none_by true n h = absurd (cc)
  none_by false n h = refl

  some_by : (b : Bool) (n k : ℕ) → cond b (Some n) None ≡ Some k → (b ≡ true) × (n ≡ k)
  some_by true n k h = (refl, (cc))
  some_by false n k h = absurd (cc)

  pub none_passes : (xs : List X) → position test xs ≡ None → list_any test xs ≡ false
  none_passes xs h = any_within xs ∙ none_by _ _ h

  pub one_passes : (xs : List X) (k : ℕ) → position test xs ≡ Some k → list_any test xs ≡ true
  one_passes xs k h = any_within xs ∙ (some_by _ _ _ h).0

  pub first_is : (xs : List X) (k : ℕ) → position test xs ≡ Some k → position_or_len test xs ≡ k
  first_is xs k h = (some_by _ _ _ h).1

  pub place_inside : (xs : List X) (k : ℕ) → position test xs ≡ Some k → position_or_len test xs < length xs
  place_inside xs k h = ltb-true _ _ (sym (any_within xs) ∙ one_passes xs k h)

  none_past : (xs : List X) → list_any test xs ≡ false → length xs ≤ position_or_len test xs
  none_past xs none = ltb-false _ _ (sym (any_within xs) ∙ none)

  -- where none passes, nothing stands behind
  pub none_behind : (xs : List X) → list_any test xs ≡ false → take (length xs - length xs) (drop (length xs) xs) ≡ drop (position_or_len test xs + 1) xs
  none_behind xs none =
      let past : length xs ≤ position_or_len test xs = none_past xs none in
      take_rest xs (length xs) ∙ drop_all (length xs) xs (omega arith) ∙ sym (drop_all (position_or_len test xs + 1) xs (omega arith))

module _ {X Y : Type 0} (f : X → Y) (test : Y → Bool) where
  -- the first place among the images
  first_of_images : (xs : List X) → position_or_len test (map f xs) ≡ position_or_len (λ x. test (f x)) xs
  first_of_images [] = refl
  first_of_images (x ∷ xs) = ap (λ n. cond (not (test (f x))) (1 + n) 0) (first_of_images xs)

  pub position_of_images : (xs : List X) → position test (map f xs) ≡ position (λ x. test (f x)) xs
  position_of_images xs =
      ap (λ n. cond (nat_lt n (length (map f xs))) (Some n) None) (first_of_images xs)
      ∙ ap (λ m. cond (nat_lt (position_or_len (λ x. test (f x)) xs) m) (Some (position_or_len (λ x. test (f x)) xs)) None) (length-map xs f)

-- a search for a byte gives the first place, where some byte passes
module _ (test : ℕ → Bool) (xs : List ℕ) where
  none_place : IsFirstByte test xs None → position_or_len test xs ≡ length xs
  none_place none =
      position_or_len_is test xs (length xs) 0 (omega arith)
      (λ j below. false_from_ne_true (test (get_or xs j 0)) (none j (omega arith) below))
      (λ past. absurd (omega arith))

  some_place : (k : ℕ) → IsFirstByte test xs (Some k) → position_or_len test xs ≡ k
  some_place k first =
      let high = first.0.high in
      position_or_len_is test xs k 0 (omega arith)
      (λ j below. false_from_ne_true (test (get_or xs j 0)) (first.0.before j (omega arith) below))
      (λ _. first.1)

  found_within : (r : Option ℕ) → IsFirstByte test xs r → nat_lt (position_or_len test xs) (length xs) ≡ is_some r
  found_within None none = ap (λ n. nat_lt n (length xs)) (none_place none) ∙ le-ltb (length xs) (length xs) (omega arith)
  found_within (Some k) first = ap (λ n. nat_lt n (length xs)) (some_place k first) ∙ lt-ltb k (length xs) first.0.high

  pub any_found : (r : Option ℕ) → IsFirstByte test xs r → list_any test xs ≡ is_some r
  any_found r found = any_within test xs ∙ found_within r found

  pub place_found : (r : Option ℕ) → IsFirstByte test xs r → r ≡ position test xs
  place_found None none =
      sym (ap (λ b. cond b (Some (position_or_len test xs)) None) (found_within None none))
  place_found (Some k) first =
      sym (ap (λ b. cond b (Some (position_or_len test xs)) None) (found_within (Some k) first) ∙ ap Some (some_place k first))

  pub found_inside : (r : Option ℕ) → IsFirstByte test xs r → IfSome r (λ at. at < length xs)
  found_inside None none = tt
  found_inside (Some k) first = first.0.high
