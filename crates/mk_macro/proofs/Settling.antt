-- What of a text a substitution can no longer change.
use Rattle.std.proofs.Common.{◌≡◌, ℕ, zero, suc, ◌+◌, ◌-◌, ◌≤◌, max, Bool, true, false, cond, List, [], ◌∷◌, ◌++◌, Some, length, take, drop, map, filter, refl, sym, ◌∙◌, ap, arith, append_assoc, length-append, length-drop}
use Rattle.std.specs.Prelude.{nat_eq, ◌||◌, if◌then◌else◌}
use Rattle.std.specs.List.{list_any, slice_split, onto_first}
use Rattle.std.specs.Cmp.Lexicographic.{pointwise}
use Rattle.std.proofs.lemmas.List.{take-append-drop}
use Rattle.std.proofs.lemmas.List.Folds.{list_any-append}
use Rattle.mk_text.specs.Lexical.{is_blank}
use Rattle.mk_macro.specs.Reference.{Change}
use Rattle.mk_macro.specs.Substitution.{changed_word, with_change, woven}
use Rattle.mk_macro.specs.Words.{ComesToSame}

first_length : List (List ℕ) → ℕ
first_length [] = 0
first_length (part ∷ parts) = length part

either : (t : Bool) (b : ℕ) (xs ys : List ℕ) → (if t then b ∷ xs else b ∷ ys) ≡ b ∷ (if t then xs else ys)
either true b xs ys = refl
either false b xs ys = refl

woven_more : (b : ℕ) (word : List ℕ) (words : List (List ℕ)) (blanks : List ℕ) → woven ((b ∷ word) ∷ words) blanks ≡ b ∷ woven (word ∷ words) blanks
woven_more b word words [] = refl
woven_more b word words (x ∷ blanks) = refl

none_first : (t rest : Bool) → (t || rest) ≡ false → t ≡ false
none_first true rest h = h
none_first false rest h = refl

none_rest : (t rest : Bool) → (t || rest) ≡ false → rest ≡ false
none_rest true rest h = absurd (cc)
none_rest false rest h = h

module _ (change : Change) where
  -- a byte before a word that is as long as what is looked for
  word_more : (b : ℕ) (word : List ℕ) → 1 ≤ length word → length change.from ≤ length word → changed_word change (b ∷ word) ≡ b ∷ changed_word change word
  word_more b [] some long = absurd (omega arith)
  word_more b (x ∷ word) some long =
      let shift : length (b ∷ x ∷ word) - length change.from ≡ suc (length (x ∷ word) - length change.from) = omega arith in
      ap (λ n. if pointwise nat_eq change.from (drop n (b ∷ x ∷ word)) then take n (b ∷ x ∷ word) ++ change.to else b ∷ x ∷ word) shift
      ∙ either (pointwise nat_eq change.from (drop (length (x ∷ word) - length change.from) (x ∷ word))) b (take (length (x ∷ word) - length change.from) (x ∷ word) ++ change.to) (x ∷ word)

  parts_more : (b : ℕ) (parts : List (List ℕ)) (blanks : List ℕ) → 1 ≤ first_length parts → length change.from ≤ first_length parts
      → woven (map (changed_word change) (onto_first b parts)) blanks ≡ b ∷ woven (map (changed_word change) parts) blanks
  unfolding first_length
  parts_more b [] blanks some long = absurd (omega arith)
  parts_more b (part ∷ parts) blanks some long =
      ap (λ word. woven (word ∷ map (changed_word change) parts) blanks) (word_more b part some long)
      ∙ woven_more b (changed_word change part) (map (changed_word change) parts) blanks

  no_blank : (t : Bool) (b : ℕ) (parts : List (List ℕ)) (blanks : List ℕ) → t ≡ false
      → woven (map (changed_word change) (cond t ([] ∷ parts) (onto_first b parts))) (cond t (b ∷ blanks) blanks) ≡ woven (map (changed_word change) (onto_first b parts)) blanks
  no_blank true b parts blanks h = absurd (cc)
  no_blank false b parts blanks h = refl

  text_more : (b : ℕ) (text : List ℕ) → is_blank b ≡ false → 1 ≤ first_length (slice_split is_blank text) → length change.from ≤ first_length (slice_split is_blank text)
      → with_change change (b ∷ text) ≡ b ∷ with_change change text
  text_more b text h some long =
      no_blank (is_blank b) b (slice_split is_blank text) (filter is_blank text) h
      ∙ parts_more b (slice_split is_blank text) (filter is_blank text) some long

  part_more : (t rest : Bool) (b n : ℕ) (parts : List (List ℕ)) → (t || rest) ≡ false → (rest ≡ false → n ≤ first_length parts) → suc n ≤ first_length (cond t ([] ∷ parts) (onto_first b parts))
  unfolding first_length
  part_more true rest b n parts h k = absurd (cc)
  part_more false rest b n [] h k = let le = k h in omega arith
  part_more false rest b n (part ∷ parts) h k = let le = k h in omega arith

  -- a word without blanks is a part of the first word, whatever follows
  long_first : (word later : List ℕ) → list_any is_blank word ≡ false → length word ≤ first_length (slice_split is_blank (word ++ later))
  long_first [] later h = omega arith
  long_first (b ∷ word) later h = part_more (is_blank b) (list_any is_blank word) b (length word) (slice_split is_blank (word ++ later)) h (λ k. long_first word later k)

  -- the front of a word stays where what is behind it is as long as what is looked for
  front_stays : (front left later : List ℕ) → list_any is_blank (front ++ left) ≡ false → 1 ≤ length left → length change.from ≤ length left
      → with_change change ((front ++ left) ++ later) ≡ front ++ with_change change (left ++ later)
  front_stays [] left later h some long = refl
  front_stays (b ∷ front) left later h some long =
      let rest = none_rest (is_blank b) (list_any is_blank (front ++ left)) h in
      let first = long_first (front ++ left) later rest in
      let size = length-append front left in
      text_more b ((front ++ left) ++ later) (none_first (is_blank b) (list_any is_blank (front ++ left)) h) (omega arith) (omega arith)
      ∙ ap (λ xs. b ∷ xs) (front_stays front left later rest some long)

  pub word_settled : (text later : List ℕ) (n : ℕ) → list_any is_blank text ≡ false → n ≡ length text - max 1 (length change.from)
      → with_change change (text ++ later) ≡ take n text ++ with_change change (drop n text ++ later)
  word_settled text later zero h e = refl
  word_settled text later (suc n) h e =
      let parts = take-append-drop (suc n) text in
      let size = length-drop (suc n) text in
      ap (λ xs. with_change change (xs ++ later)) (sym parts)
      ∙ front_stays (take (suc n) text) (drop (suc n) text) later (ap (list_any is_blank) parts ∙ h) (omega arith) (omega arith)

  -- the end of a text whose words are put, except the last
  pub last_settled : (whole before rest out front left next : List ℕ) (n : ℕ) → ComesToSame (Some change) whole before rest out → list_any is_blank rest ≡ false → n ≡ length rest - max 1 (length change.from)
      → front ≡ take n rest → left ≡ drop n rest → next ≡ out ++ front → ComesToSame (Some change) whole before left next
  last_settled whole before rest out front left next n same word e f l put later =
      ap (λ xs. xs ++ with_change change (left ++ later)) (put ∙ ap (λ xs. out ++ xs) f)
      ∙ append_assoc out (take n rest) (with_change change (left ++ later))
      ∙ ap (λ xs. out ++ (take n rest ++ with_change change (xs ++ later))) l
      ∙ ap (λ xs. out ++ xs) (sym (word_settled rest later n word e)) ∙ same later

  pub long_front : (whole before rest out front : List ℕ) (n : ℕ) → ComesToSame (Some change) whole before rest out → list_any is_blank rest ≡ false → n ≡ length rest - max 1 (length change.from)
      → front ≡ take n rest → (later : List ℕ) → length out + length front ≤ length before + length (with_change change (whole ++ later))
  long_front whole before rest out front n same word e f later =
      omega (
        arith,
        ap length f,
        ap length (same later),
        ap length (word_settled rest later n word e),
        length-append out (with_change change (rest ++ later)),
        length-append before (with_change change (whole ++ later)),
        length-append (take n rest) (with_change change (drop n rest ++ later)),
      )

-- the end of a word is a word
pub word_end : (text left : List ℕ) (n : ℕ) → list_any is_blank text ≡ false → left ≡ drop n text → list_any is_blank left ≡ false
word_end text left n word l =
    ap (list_any is_blank) l
    ∙ none_rest (list_any is_blank (take n text)) (list_any is_blank (drop n text)) (sym (list_any-append is_blank (take n text) (drop n text)) ∙ ap (list_any is_blank) (take-append-drop n text) ∙ word)
