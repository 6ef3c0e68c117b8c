-- The first byte outside of references, by searches that jump from sign to sign.
use Rattle.std.proofs.Common.{◌≡◌, ℕ, zero, suc, ◌+◌, ◌<◌, ◌≤◌, Bool, true, false, List, [], ◌∷◌, Some, None, length, get_or, drop, arith, refl, sym, ap, ◌∙◌, ◌==◌, ◌||◌}
use Rattle.std.specs.Option.{option_map}
use Rattle.std.proofs.lemmas.Bool.{false_from_ne_true, or_parts, or_from, eq-eqb, ne_eqb}
use Rattle.std.proofs.lemmas.List.{drop_all, drop_more, drop-drop, get_or-drop}
use Rattle.memchr.specs.Find.{IsFirstByte}
use Rattle.mk_lines.proofs.Places.{later_none, later_sum, place-skip}
use Rattle.mk_lines.specs.Outside.{dollar, Standing, Opening, Within, behind, place_from, place_outside}

-- tests that agree find the same place
pub place-same : (p q : ℕ → Bool) → ((b : ℕ) → p b ≡ q b) → (standing : Standing) (xs : List ℕ) → place_from p standing xs ≡ place_from q standing xs
place-same p q same standing [] = refl
place-same p q same standing (x ∷ xs) = simp (same x, place-same p q same (behind standing x) xs)

module _ (test : ℕ → Bool) (closing : ℕ) where
  within-next : (x : ℕ) (xs : List ℕ) → (x == closing) ≡ false → place_from test (Within closing) (x ∷ xs) ≡ option_map (λ n. n + 1) (place_from test (Within closing) xs)
  within-next x xs other = simp other

  within-end : (x : ℕ) (xs : List ℕ) → (x == closing) ≡ true → place_from test (Within closing) (x ∷ xs) ≡ option_map (λ n. n + 1) (place_outside test xs)
  within-end x xs closes = simp closes

  within-skip : (k : ℕ) (xs : List ℕ) → k ≤ length xs → ((i : ℕ) → i < k → (get_or xs i 0 == closing) ≡ false) → place_from test (Within closing) xs ≡ option_map (λ n. n + k) (place_from test (Within closing) (drop k xs))
  within-skip zero xs inside others = later_none (place_from test (Within closing) xs)
  within-skip (suc k) [] inside others = absurd (omega arith)
  within-skip (suc k) (x ∷ xs) inside others =
      within-next x xs (others 0 (omega arith))
      ∙ ap (option_map (λ n. n + 1)) (within-skip k xs (omega arith) (λ i below. others (suc i) (omega arith)))
      ∙ later_sum k 1 (suc k) (place_from test (Within closing) (drop k xs)) (omega arith)

  pub within_found : (xs : List ℕ) (k : ℕ) → IsFirstByte (λ b. b == closing) xs (Some k) → place_from test (Within closing) xs ≡ option_map (λ n. n + (k + 1)) (place_outside test (drop (k + 1) xs))
  within_found xs k h =
      let high = h.0.high in
      let at : drop k xs ≡ get_or xs k 0 ∷ drop (k + 1) xs = drop_more xs k 0 high in
      within-skip k xs (omega arith) (λ i below. false_from_ne_true (get_or xs i 0 == closing) (h.0.before i (omega arith) below))
      ∙ ap (λ rest. option_map (λ n. n + k) (place_from test (Within closing) rest)) at
      ∙ ap (option_map (λ n. n + k)) (within-end (get_or xs k 0) (drop (k + 1) xs) h.1)
      ∙ later_sum 1 k (k + 1) (place_outside test (drop (k + 1) xs)) (omega arith)

  pub within_none : (xs : List ℕ) → IsFirstByte (λ b. b == closing) xs None → place_from test (Within closing) xs ≡ option_map (λ n. n + length xs) (place_outside test (drop (length xs) xs))
  within_none xs h =
      let past : drop (length xs) xs ≡ [] = drop_all (length xs) xs (omega arith) in
      within-skip (length xs) xs (omega arith) (λ i below. false_from_ne_true (get_or xs i 0 == closing) (h i (omega arith) below))
      ∙ rw past refl

-- the jumps: to a dollar sign, or to one of two bytes that are none
module _ (first second : ℕ) (one : first ≡ dollar → ⊥) (two : second ≡ dollar → ⊥) (xs : List ℕ) where
  jump : (k : ℕ) → k ≤ length xs → ((i : ℕ) → i < k → (get_or xs i 0 == dollar || get_or xs i 0 == first || get_or xs i 0 == second) ≡ true → ⊥) → place_outside (λ b. b == first || b == second) xs ≡ option_map (λ n. n + k) (place_outside (λ b. b == first || b == second) (drop k xs))
  jump k inside none =
      place-skip (λ b. b == first || b == second) k xs inside
      (λ i below. (or_parts (get_or xs i 0 == dollar) (get_or xs i 0 == first) ((fails i below).0)).0)
      (λ i below. or_from (get_or xs i 0 == first) (get_or xs i 0 == second) ((or_parts (get_or xs i 0 == dollar) (get_or xs i 0 == first) ((fails i below).0)).1) ((fails i below).1))
    where
      fails : (i : ℕ) → i < k → ((get_or xs i 0 == dollar || get_or xs i 0 == first) ≡ false) × ((get_or xs i 0 == second) ≡ false)
      fails i below = or_parts (get_or xs i 0 == dollar || get_or xs i 0 == first) (get_or xs i 0 == second) (false_from_ne_true _ (none i below))

  at_sign : (x : ℕ) (rest : List ℕ) → (x ≡ dollar → ⊥) → (x == dollar || x == first || x == second) ≡ true → place_outside (λ b. b == first || b == second) (x ∷ rest) ≡ Some 0
  at_sign x rest plain passes =
      let no = ne_eqb x dollar plain in
      let sign : (x == first || x == second) ≡ true = grind (arith, no, passes) in
      simp sign

  at_dollar : (x : ℕ) (rest : List ℕ) → x ≡ dollar → place_outside (λ b. b == first || b == second) (x ∷ rest) ≡ option_map (λ n. n + 1) (place_from (λ b. b == first || b == second) Opening rest)
  at_dollar x rest is =
      let yes = eq-eqb x dollar is in
      let no_first = ne_eqb x first (λ same. one (sym same ∙ is)) in
      let no_second = ne_eqb x second (λ same. two (sym same ∙ is)) in
      simp (yes, no_first, no_second)

  pub sign_found : (k : ℕ) → IsFirstByte (λ b. b == dollar || b == first || b == second) xs (Some k) → (get_or xs k 0 ≡ dollar → ⊥) → place_outside (λ b. b == first || b == second) xs ≡ Some k
  sign_found k h plain =
      let high = h.0.high in
      let at : drop k xs ≡ get_or xs k 0 ∷ drop (k + 1) xs = drop_more xs k 0 high in
      jump k (omega arith) (λ i below. h.0.before i (omega arith) below)
      ∙ ap (λ rest. option_map (λ n. n + k) (place_outside (λ b. b == first || b == second) rest)) at
      ∙ ap (option_map (λ n. n + k)) (at_sign (get_or xs k 0) (drop (k + 1) xs) plain h.1)
      ∙ ap Some (omega arith)

  pub dollar_found : (k m : ℕ) → IsFirstByte (λ b. b == dollar || b == first || b == second) xs (Some k) → get_or xs k 0 ≡ dollar → place_from (λ b. b == first || b == second) Opening (drop (k + 1) xs) ≡ option_map (λ n. n + m) (place_outside (λ b. b == first || b == second) (drop m (drop (k + 1) xs))) → place_outside (λ b. b == first || b == second) xs ≡ option_map (λ n. n + (k + 1 + m)) (place_outside (λ b. b == first || b == second) (drop (k + 1 + m) xs))
  dollar_found k m h is rest =
      let high = h.0.high in
      let at : drop k xs ≡ get_or xs k 0 ∷ drop (k + 1) xs = drop_more xs k 0 high in
      let far : drop m (drop (k + 1) xs) ≡ drop (k + 1 + m) xs = drop-drop m (k + 1) xs in
      jump k (omega arith) (λ i below. h.0.before i (omega arith) below)
      ∙ ap (λ rest. option_map (λ n. n + k) (place_outside (λ b. b == first || b == second) rest)) at
      ∙ ap (option_map (λ n. n + k)) (at_dollar (get_or xs k 0) (drop (k + 1) xs) is ∙ ap (option_map (λ n. n + 1)) rest ∙ later_sum m 1 (m + 1) _ (omega arith))
      ∙ later_sum (m + 1) k (k + 1 + m) _ (omega arith)
      ∙ ap (λ rest. option_map (λ n. n + (k + 1 + m)) (place_outside (λ b. b == first || b == second) rest)) far

  pub no_sign : IsFirstByte (λ b. b == dollar || b == first || b == second) xs None → place_outside (λ b. b == first || b == second) xs ≡ None
  no_sign h =
      let past : drop (length xs) xs ≡ [] = drop_all (length xs) xs (omega arith) in
      jump (length xs) (omega arith) (λ i below. h i (omega arith) below)
      ∙ rw past refl

-- the same jumps from a place of a text on
module _ (first second : ℕ) (one : first ≡ dollar → ⊥) (two : second ≡ dollar → ⊥) (text : List ℕ) (start n : ℕ) (whole : place_outside (λ b. b == first || b == second) text ≡ option_map (λ k. k + start) (place_outside (λ b. b == first || b == second) (drop start text))) (found : IsFirstByte (λ b. b == dollar || b == first || b == second) (drop start text) (Some n)) where
  pub sign_from : (get_or text (start + n) 0 ≡ dollar → ⊥) → Some (start + n) ≡ place_outside (λ b. b == first || b == second) text
  sign_from plain =
      sym (whole
      ∙ ap (option_map (λ k. k + start)) (sign_found first second one two (drop start text) n found (λ is. plain (sym (get_or-drop start text n 0) ∙ is)))
      ∙ ap Some (omega arith))

  pub dollar_from : (m : ℕ) → get_or text (start + n) 0 ≡ dollar → place_from (λ b. b == first || b == second) Opening (drop (start + n + 1) text) ≡ option_map (λ k. k + m) (place_outside (λ b. b == first || b == second) (drop m (drop (start + n + 1) text))) → place_outside (λ b. b == first || b == second) text ≡ option_map (λ k. k + (start + n + 1 + m)) (place_outside (λ b. b == first || b == second) (drop (start + n + 1 + m) text))
  dollar_from m is rest =
      let far : drop (start + n + 1) text ≡ drop (n + 1) (drop start text) = ap (λ k. drop k text) (omega arith) ∙ sym (drop-drop (n + 1) start text) in
      let end : drop (n + 1 + m) (drop start text) ≡ drop (start + n + 1 + m) text = drop-drop (n + 1 + m) start text ∙ ap (λ k. drop k text) (omega arith) in
      whole
      ∙ ap (option_map (λ k. k + start)) (dollar_found first second one two (drop start text) n m found (get_or-drop start text n 0 ∙ is) (rw far at rest))
      ∙ later_sum (n + 1 + m) start (start + n + 1 + m) _ (omega arith)
      ∙ ap (λ rest. option_map (λ k. k + (start + n + 1 + m)) (place_outside (λ b. b == first || b == second) rest)) end

pub none_from : (first second : ℕ) (one : first ≡ dollar → ⊥) (two : second ≡ dollar → ⊥) (text : List ℕ) (start : ℕ) → place_outside (λ b. b == first || b == second) text ≡ option_map (λ k. k + start) (place_outside (λ b. b == first || b == second) (drop start text)) → IsFirstByte (λ b. b == dollar || b == first || b == second) (drop start text) None → None ≡ place_outside (λ b. b == first || b == second) text
none_from first second one two text start whole none =
    sym (whole ∙ ap (option_map (λ k. k + start)) (no_sign first second one two (drop start text) none))
