-- A text with changed words, word by word.
use Rattle.std.proofs.Common.{◌≡◌, ℕ, suc, ◌+◌, ◌-◌, ◌<◌, Bool, true, false, cond, List, [], ◌∷◌, ◌++◌, Some, None, length, get_or, take, drop, map, filter, refl, sym, ◌∙◌, ap, arith, not, append_assoc, length-append}
use Rattle.std.specs.Prelude.{nat_lt, ◌||◌}
use Rattle.std.specs.List.{list_any, position, position_or_len, slice_split, before_first, after_first}
use Rattle.std.proofs.lemmas.Bool.{false_from_ne_true, false≢true, lt-ltb}
use Rattle.std.proofs.lemmas.List.{append-nil, drop-append-le, drop_more, take-append-le, take_rest}
use Rattle.std.proofs.lemmas.List.Folds.{list_any_at}
use Rattle.std.proofs.lemmas.List.Splits.{slice_split_first, slice_split_none}
use Rattle.mk_text.specs.Lexical.{is_blank}
use Rattle.mk_macro.specs.Reference.{Change}
use Rattle.mk_macro.specs.Substitution.{changed_word, with_change, woven}
use Rattle.mk_macro.proofs.Places.{first_is, place_inside}

module _ (p : ℕ → Bool) where
  none_more : (b : Bool) (x : ℕ) (rest : Bool) (xs ys : List ℕ) → (b || rest) ≡ false → (rest ≡ false → xs ≡ []) → cond b (x ∷ xs) xs ≡ []
  none_more true x rest xs ys h k = absurd (cc)
  none_more false x rest xs ys h k = k h

  filter_none : (xs : List ℕ) → list_any p xs ≡ false → filter p xs ≡ []
  filter_none [] h = refl
  filter_none (x ∷ xs) h = none_more (p x) x (list_any p xs) (filter p xs) xs h (filter_none xs)

  first_more : (b : Bool) (x n : ℕ) (xs : List ℕ) (blanks : List ℕ → List ℕ) → (b ≡ false → blanks xs ≡ get_or xs n 0 ∷ blanks (drop (n + 1) xs))
      → cond b (x ∷ blanks xs) (blanks xs) ≡ get_or (x ∷ xs) (cond (not b) (1 + n) 0) 0 ∷ blanks (drop (cond (not b) (1 + n) 0 + 1) (x ∷ xs))
  first_more true x n xs blanks k = refl
  first_more false x n xs blanks k =
      k refl
      ∙ ap (λ m. get_or (x ∷ xs) m 0 ∷ blanks (drop (n + 1) xs)) (one_more_lem n)
      ∙ ap (λ m. get_or (x ∷ xs) (1 + n) 0 ∷ blanks (drop m (x ∷ xs))) (two_more_lem n)
    where
      one_more_lem : (m : ℕ) → suc m ≡ 1 + m
      one_more_lem m = omega arith

      two_more_lem : (m : ℕ) → suc (m + 1) ≡ 1 + m + 1
      two_more_lem m = omega arith

  filter_first : (xs : List ℕ) → position_or_len p xs < length xs → filter p xs ≡ get_or xs (position_or_len p xs) 0 ∷ filter p (drop (position_or_len p xs + 1) xs)
  filter_first [] h = absurd (omega arith)
  filter_first (x ∷ xs) h = first_more (p x) x (position_or_len p xs) xs (filter p) (λ no_. filter_first xs (inside (p x) (position_or_len p xs) (length xs) no_ h))
    where
      inside : (b : Bool) (n m : ℕ) → b ≡ false → cond (not b) (1 + n) 0 < suc m → n < m
      inside true n m e k = absurd (cc)
      inside false n m e k = omega arith

-- up to the first blank
pub change_more : (text : List ℕ) (at : ℕ) → position is_blank text ≡ Some at
    → (change : Change) → with_change change text ≡ changed_word change (take at text) ++ get_or text at 0 ∷ with_change change (drop (at + 1) text)
change_more text at h change =
    let is = first_is is_blank text at h in
    let inside = place_inside is_blank text at h in
    let words = slice_split_first is_blank text 0 inside in
    let blanks = filter_first is_blank text inside in
    ap (λ ws. woven (map (changed_word change) ws) (filter is_blank text)) words
    ∙ ap (λ bs. woven (map (changed_word change) (before_first is_blank text ∷ slice_split is_blank (after_first is_blank text))) bs) blanks
    ∙ ap (λ n. changed_word change (take n text) ++ get_or text n 0 ∷ with_change change (drop (n + 1) text)) is

-- a text without blanks is a word
pub change_last : (text : List ℕ) → list_any is_blank text ≡ false → (change : Change) → with_change change text ≡ changed_word change text
change_last text none change =
    let words = slice_split_none is_blank text (λ k d inside. none_at text k d none inside) in
    let blanks = filter_none is_blank text none in
    ap (λ ws. woven (map (changed_word change) ws) (filter is_blank text)) words
    ∙ ap (λ bs. woven (changed_word change text ∷ []) bs) blanks
    ∙ append-nil (changed_word change text)
  where
    none_at : (xs : List ℕ) (k d : ℕ) → list_any is_blank xs ≡ false → k < length xs → is_blank (get_or xs k d) ≡ false
    none_at xs k d none inside = false_from_ne_true (is_blank (get_or xs k d)) (λ some. false≢true (sym none ∙ list_any_at is_blank xs k d inside some))

-- the first blank stays where it is, whatever follows
front_more : (t : Bool) (n m : ℕ) → (t ≡ false → n ≡ m) → cond (not t) (1 + n) 0 ≡ cond (not t) (1 + m) 0
front_more true n m k = refl
front_more false n m k = ap (λ i. 1 + i) (k refl)

front_inside : (t : Bool) (n m : ℕ) → cond (not t) (1 + n) 0 < suc m → t ≡ false → n < m
front_inside true n m h k = absurd (cc)
front_inside false n m h k = omega arith

front_place : (test : ℕ → Bool) (text later : List ℕ) → position_or_len test text < length text → position_or_len test (text ++ later) ≡ position_or_len test text
front_place test [] later h = absurd (omega arith)
front_place test (b ∷ text) later h =
    front_more (test b) _ _ (λ no_. front_place test text later (front_inside (test b) (position_or_len test text) (length text) h no_))

found : (n m : ℕ) → n < m → cond (nat_lt n m) (Some n) None ≡ Some n
found n m h = rw (lt-ltb n m h) refl

pub same_place : (text later : List ℕ) (at : ℕ) → position is_blank text ≡ Some at → position is_blank (text ++ later) ≡ Some at
same_place text later at h =
    let is = first_is is_blank text at h in
    let inside = place_inside is_blank text at h in
    let size = length-append text later in
    ap (λ n. cond (nat_lt n (length (text ++ later))) (Some n) None) (front_place is_blank text later inside)
    ∙ found (position_or_len is_blank text) (length (text ++ later)) (omega arith) ∙ ap (λ n. Some n) is

-- the same, with the parts as slices, and whatever follows
pub cut_more : (text : List ℕ) (at : ℕ) → at < length text → position is_blank text ≡ Some at
    → (change : Change) (later : List ℕ) → with_change change (text ++ later) ≡ changed_word change (take at text) ++ take (at + 1 - at) (drop at text) ++ with_change change (take (length text - (at + 1)) (drop (at + 1) text) ++ later)
cut_more text at inside h change later =
    let word = changed_word change (take at text) in
    let blank = get_or text at 0 ∷ [] in
    let rest = take (length text - (at + 1)) (drop (at + 1) text) in
    let one : take (at + 1 - at) (drop at text) ≡ blank = ap (λ n. take n (drop at text)) (one_is at) ∙ ap (take 1) (drop_more text at 0 inside) in
    let whole = drop_more (text ++ later) at 0 (omega (arith, length-append text later)) in
    let part = drop_more text at 0 inside in
    let front : drop at (text ++ later) ≡ drop at text ++ later = drop-append-le at text later (omega arith) in
    let heads : get_or (text ++ later) at 0 ∷ drop (at + 1) (text ++ later) ≡ get_or text at 0 ∷ (drop (at + 1) text ++ later) = sym whole ∙ front ∙ ap (λ xs. xs ++ later) part in
    let head : get_or (text ++ later) at 0 ≡ get_or text at 0 = cc in
    let behind : drop (at + 1) (text ++ later) ≡ drop (at + 1) text ++ later = cc in
    change_more (text ++ later) at (same_place text later at h) change
    ∙ ap (λ xs. changed_word change xs ++ get_or (text ++ later) at 0 ∷ with_change change (drop (at + 1) (text ++ later))) (take-append-le at text later (omega arith))
    ∙ ap (λ b. word ++ b ∷ with_change change (drop (at + 1) (text ++ later))) head
    ∙ ap (λ xs. word ++ get_or text at 0 ∷ with_change change xs) (behind ∙ ap (λ xs. xs ++ later) (sym (take_rest text (at + 1))))
    ∙ sym (append_assoc word blank (with_change change (rest ++ later)))
    ∙ ap (λ xs. word ++ xs ++ with_change change (rest ++ later)) (sym one)
  where
    one_is : (n : ℕ) → n + 1 - n ≡ 1
    one_is n = omega arith
