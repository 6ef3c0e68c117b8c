-- The pieces of a block, by a walk over its physical lines.
use Rattle.std.proofs.Common.{◌≡◌, ℕ, suc, ◌+◌, ◌-◌, ◌<◌, Bool, true, false, cond, List, [], ◌∷◌, ◌++◌, Option, Some, None, Bor, length, get_or, take, drop, map, arith, refl, sym, ap, ◌∙◌, ◌==◌, append_assoc, ⊎_elim}
use Rattle.std.specs.List.{before_first, join_with_byte, list_any, position_or_len, prefix_len}
use Rattle.std.specs.Option.{is_some, option_map_or}
use Rattle.std.proofs.lemmas.Bool.{cases_Bool, cond-true, cond-false, or_parts}
use Rattle.std.proofs.lemmas.List.{take_more, length-map, length-take, map-append}
use Rattle.mk_lines.proofs.Cuts.{some_lines}
use Rattle.mk_text.specs.Lexical.{is_blank, past_blanks, physical_lines, space, number_sign}
use Rattle.mk_lines.specs.LogicalLines.{pieces_of, without_backslashes, without_comment, without_indents}

-- a byte that fails stands before the first that passes
before-fails : (p : ℕ → Bool) (x : ℕ) (xs : List ℕ) → p x ≡ false → before_first p (x ∷ xs) ≡ x ∷ before_first p xs
before-fails p x xs fails =
    let next : 1 + position_or_len p xs ≡ suc (position_or_len p xs) = omega arith in
    simp (fails, next)

-- where no byte passes, all stands before the first that does
pub before-none : (p : ℕ → Bool) (xs : List ℕ) → list_any p xs ≡ false → before_first p xs ≡ xs
before-none p [] none = refl
before-none p (x ∷ xs) none =
    let parts = or_parts (p x) (list_any p xs) none in
    before-fails p x xs (parts.0) ∙ ap (λ rest. x ∷ rest) (before-none p xs parts.1)

-- the first line of a block without its comment, and whether it has one
pub cut_first : (line : List ℕ) (later : Option (Bor (List ℕ))) (piece : List ℕ) → piece ≡ cond (is_some later) (take (length line - 1) line) line
    → without_comment (without_backslashes (line ∷ option_map_or (λ rest. physical_lines rest.now) later []))
    ≡ cond (list_any (λ b. b == number_sign) piece) (before_first (λ b. b == number_sign) piece ∷ []) (piece ∷ option_map_or (λ rest. without_comment (without_backslashes (physical_lines rest.now))) later [])
cut_first line None piece is = rw is refl
cut_first line (Some rest) piece is = by (physical_lines rest.now) (some_lines rest.now) ∙ rw is refl
  where
    by : (lines : List (List ℕ)) → 0 < length lines → without_comment (without_backslashes (line ∷ lines)) ≡ without_comment (take (length line - 1) line ∷ without_backslashes lines)
    by [] some = absurd (omega arith)
    by (next ∷ lines) some = refl

-- blanks at the front hold no number sign
past-blank : (b : ℕ) (bs : List ℕ) → is_blank b ≡ true → past_blanks (b ∷ bs) ≡ past_blanks bs
past-blank b bs blank =
    let next : 1 + prefix_len is_blank bs ≡ suc (prefix_len is_blank bs) = omega arith in
    ap (λ t. drop (cond t (1 + prefix_len is_blank bs) 0) (b ∷ bs)) blank ∙ ap (λ n. drop n (b ∷ bs)) next

past-other : (b : ℕ) (bs : List ℕ) → is_blank b ≡ false → past_blanks (b ∷ bs) ≡ b ∷ bs
past-other b bs other = ap (λ t. drop (cond t (1 + prefix_len is_blank bs) 0) (b ∷ bs)) other

blank-no-sign : (b : ℕ) → is_blank b ≡ true → (b == number_sign) ≡ false
blank-no-sign b blank = grind arith

any-past : (line : List ℕ) → list_any (λ b. b == number_sign) (past_blanks line) ≡ list_any (λ b. b == number_sign) line
any-past [] = refl
any-past (b ∷ bs) =
    ⊎_elim
    (λ blank. let none = blank-no-sign b blank in ap (list_any (λ b. b == number_sign)) (past-blank b bs blank) ∙ any-past bs ∙ simp none)
    (λ other. ap (list_any (λ b. b == number_sign)) (past-other b bs other))
    (cases_Bool (is_blank b))

before-past : (line : List ℕ) → before_first (λ b. b == number_sign) (past_blanks line) ≡ past_blanks (before_first (λ b. b == number_sign) line)
before-past [] = refl
before-past (b ∷ bs) =
    ⊎_elim
    (λ blank.
    let none = blank-no-sign b blank in
    let first : before_first (λ b. b == number_sign) (b ∷ bs) ≡ b ∷ before_first (λ b. b == number_sign) bs = before-fails (λ b. b == number_sign) b bs none in
    ap (before_first (λ b. b == number_sign)) (past-blank b bs blank) ∙ before-past bs ∙ sym (ap past_blanks first ∙ past-blank b (before_first (λ b. b == number_sign) bs) blank))
    (λ other.
    ap (before_first (λ b. b == number_sign)) (past-other b bs other)
    ∙ ⊎_elim
    (λ (passes : (b == number_sign) ≡ true). let none : before_first (λ b. b == number_sign) (b ∷ bs) ≡ [] = simp passes in none ∙ sym (ap past_blanks none))
    (λ fails. let first : before_first (λ b. b == number_sign) (b ∷ bs) ≡ b ∷ before_first (λ b. b == number_sign) bs = before-fails (λ b. b == number_sign) b bs fails in
    first ∙ sym (ap past_blanks first ∙ past-other b (before_first (λ b. b == number_sign) bs) other))
    (cases_Bool (b == number_sign)))
    (cases_Bool (is_blank b))

-- the comment may go before the blanks do
without_comment-map : (lines : List (List ℕ)) → without_comment (map past_blanks lines) ≡ map past_blanks (without_comment lines)
without_comment-map [] = refl
without_comment-map (line ∷ lines) =
    ⊎_elim
    (λ some.
    cond-true (list_any (λ b. b == number_sign) (past_blanks line)) _ _ (any-past line ∙ some) ∙ ap (λ l. l ∷ []) (before-past line)
    ∙ sym (ap (map past_blanks) (cond-true (list_any (λ b. b == number_sign) line) _ _ some)))
    (λ none.
    cond-false (list_any (λ b. b == number_sign) (past_blanks line)) _ _ (any-past line ∙ none) ∙ ap (λ l. past_blanks line ∷ l) (without_comment-map lines)
    ∙ sym (ap (map past_blanks) (cond-false (list_any (λ b. b == number_sign) line) _ _ none)))
    (cases_Bool (list_any (λ b. b == number_sign) line))

pub comment_first : (lines : List (List ℕ)) → without_comment (without_indents lines) ≡ without_indents (without_comment lines)
comment_first [] = refl
comment_first (line ∷ lines) =
    ⊎_elim
    (λ some.
    cond-true (list_any (λ b. b == number_sign) line) _ _ some
    ∙ sym (ap without_indents (cond-true (list_any (λ b. b == number_sign) line) _ _ some)))
    (λ none.
    cond-false (list_any (λ b. b == number_sign) line) _ _ none ∙ ap (λ l. line ∷ l) (without_comment-map lines)
    ∙ sym (ap without_indents (cond-false (list_any (λ b. b == number_sign) line) _ _ none)))
    (cases_Bool (list_any (λ b. b == number_sign) line))

-- what a block's rest has of pieces, without the blanks at their front
abbrev pub pieces_behind : Option (Bor (List ℕ)) → List (List ℕ)
pieces_behind rest = map past_blanks (option_map_or (λ rest. without_comment (without_backslashes (physical_lines rest.now))) rest [])

pub pieces_first : (block piece : List ℕ) (rest : Option (Bor (List ℕ))) → without_comment (without_backslashes (physical_lines block)) ≡ piece ∷ option_map_or (λ rest. without_comment (without_backslashes (physical_lines rest.now))) rest [] → pieces_of (physical_lines block) ≡ piece ∷ pieces_behind rest
pieces_first block piece rest is = comment_first (without_backslashes (physical_lines block)) ∙ ap without_indents is

pub pieces_more : (whole found new : List (List ℕ)) (block piece : List ℕ) (later : Option (Bor (List ℕ))) (b : Bor (List ℕ)) → whole ≡ found ++ pieces_behind (Some b) → without_comment (without_backslashes (physical_lines b.now)) ≡ piece ∷ option_map_or (λ rest. without_comment (without_backslashes (physical_lines rest.now))) later [] → new ≡ found ++ past_blanks piece ∷ [] → whole ≡ new ++ pieces_behind later
pieces_more whole found new block piece later b before is pushed =
    before ∙ ap (λ pieces. found ++ map past_blanks pieces) is
    ∙ sym (ap (λ front. front ++ pieces_behind later) pushed ∙ append_assoc found (past_blanks piece ∷ []) (pieces_behind later))

-- one more piece at the end
join-push : (x : List ℕ) (xs : List (List ℕ)) (y : List ℕ) → join_with_byte space (x ∷ (xs ++ y ∷ [])) ≡ join_with_byte space (x ∷ xs) ++ (space ∷ y)
join-push x [] y = refl
join-push x (z ∷ zs) y = ap (λ l. x ++ (space ∷ l)) (join-push z zs y) ∙ sym (append_assoc x (space ∷ join_with_byte space (z ∷ zs)) (space ∷ y))

join_more : (front : List (List ℕ)) (text mid y : List ℕ) → text ≡ join_with_byte space front → (length front ≡ 0 → mid ≡ text) → (0 < length front → mid ≡ text ++ space ∷ []) → mid ++ y ≡ join_with_byte space (front ++ y ∷ [])
join_more [] text mid y before first later = ap (λ l. l ++ y) (first refl ∙ before)
join_more (x ∷ xs) text mid y before first later =
    ap (λ l. l ++ y) (later (omega arith)) ∙ append_assoc text (space ∷ []) y ∙ ap (λ l. l ++ (space ∷ y)) before ∙ sym (join-push x xs y)

-- a loop that joins the pieces
pub text_more : {V : Type 0} (now : V → List ℕ) (xs : List V) (i : ℕ) (v : V) → i < length xs → v ≡ get_or xs i v → (text mid : List ℕ) → text ≡ join_with_byte space (map now (take i xs)) → (i ≡ 0 → mid ≡ text) → (0 < i → mid ≡ text ++ space ∷ []) → mid ++ now v ≡ join_with_byte space (map now (take (i + 1) xs))
text_more now xs i v within is text mid before first later =
    let size : length (map now (take i xs)) ≡ i = length-map (take i xs) now ∙ omega (arith, length-take i xs, within) in
    let front : map now (take (i + 1) xs) ≡ map now (take i xs) ++ now v ∷ [] =
    ap (map now) (take_more xs i v within) ∙ map-append now (take i xs) (get_or xs i v ∷ []) ∙ ap (λ x. map now (take i xs) ++ now x ∷ []) (sym is) in
    join_more (map now (take i xs)) text mid (now v) before (λ h. first (sym size ∙ h)) (λ h. later (rw (sym size) h))
    ∙ ap (join_with_byte space) (sym front)
