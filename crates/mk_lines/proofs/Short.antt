-- The text of a line is no longer than its block.
use Rattle.std.proofs.Common.{◌≡◌, ℕ, ◌+◌, ◌-◌, ◌≤◌, ◌<◌, true, false, List, [], ◌∷◌, length, map, take, drop, arith, refl, sym, ap, subst, ◌==◌, ⊎_elim}
use Rattle.std.specs.List.{before_first, join_with_byte, list_any, position_or_len, prefix_len}
use Rattle.std.proofs.lemmas.Bool.{cases_Bool, cond-true, cond-false}
use Rattle.std.proofs.lemmas.List.{length-append, length-drop, length-take}
use Rattle.mk_lines.proofs.Cuts.{some_lines}
use Rattle.mk_lines.proofs.Sorting.{whole_bytes}
use Rattle.mk_text.specs.Lexical.{is_blank, newline, past_blanks, physical_lines, space, number_sign}
use Rattle.mk_lines.specs.LogicalLines.{pieces_of, without_backslashes, without_comment, without_indents}

-- the bytes of lines, with one more for each
abbrev size : List (List ℕ) → ℕ
size [] = 0
size (line ∷ lines) = length line + 1 + size lines

more : (line : List ℕ) (lines : List (List ℕ)) → size (line ∷ lines) ≡ length line + 1 + size lines
more line lines = refl

join_size : (c : ℕ) (line : List ℕ) (lines : List (List ℕ)) → length (join_with_byte c (line ∷ lines)) + 1 ≡ size (line ∷ lines)
join_size c line [] = omega (arith, more line [])
join_size c line (next ∷ lines) =
    omega (arith, more line (next ∷ lines), length-append line (c ∷ join_with_byte c (next ∷ lines)), join_size c next lines)

join_le : (c : ℕ) (lines : List (List ℕ)) → length (join_with_byte c lines) ≤ size lines - 1
join_le c [] = omega arith
join_le c (line ∷ lines) = omega (arith, join_size c line lines)

whole_size : (block : List ℕ) → size (physical_lines block) ≡ length block + 1
whole_size block = of_lines (physical_lines block) (some_lines block) (whole_bytes block)
  where
    of_lines : (lines : List (List ℕ)) → 0 < length lines → join_with_byte newline lines ≡ block → size lines ≡ length block + 1
    of_lines [] some is = absurd (omega (arith, some))
    of_lines (line ∷ lines) some is = let same : length (join_with_byte newline (line ∷ lines)) ≡ length block = ap length is in omega (arith, join_size newline line lines, same)

take_le : (n : ℕ) (line : List ℕ) → length (take n line) ≤ length line
take_le n line = omega (arith, length-take n line)

drop_le : (n : ℕ) (line : List ℕ) → length (drop n line) ≤ length line
drop_le n line = omega (arith, length-drop n line)

-- a line that is not longer, before lines that are not
step : (line other : List ℕ) (lines others : List (List ℕ)) → length other ≤ length line → size others ≤ size lines → size (other ∷ others) ≤ size (line ∷ lines)
step line other lines others first later = omega (arith, more line lines, more other others, first, later)

backslashes_size : (lines : List (List ℕ)) → size (without_backslashes lines) ≤ size lines
backslashes_size [] = omega arith
backslashes_size (line ∷ []) = omega arith
backslashes_size (line ∷ next ∷ lines) =
    step line (take (length line - 1) line) (next ∷ lines) (without_backslashes (next ∷ lines)) (take_le (length line - 1) line) (backslashes_size (next ∷ lines))

past_size : (lines : List (List ℕ)) → size (map past_blanks lines) ≤ size lines
past_size [] = omega arith
past_size (line ∷ lines) = step line (past_blanks line) lines (map past_blanks lines) (drop_le (prefix_len is_blank line) line) (past_size lines)

indents_size : (lines : List (List ℕ)) → size (without_indents lines) ≤ size lines
indents_size [] = omega arith
indents_size (line ∷ lines) = step line line lines (map past_blanks lines) (omega arith) (past_size lines)

comment_size : (lines : List (List ℕ)) → size (without_comment lines) ≤ size lines
comment_size [] = omega arith
comment_size (line ∷ lines) =
    ⊎_elim
    (λ (some : list_any (λ b. b == number_sign) line ≡ true).
    subst (λ pieces. size pieces ≤ size (line ∷ lines)) (sym (cond-true (list_any (λ b. b == number_sign) line) _ _ some))
    (step line (before_first (λ b. b == number_sign) line) lines [] (take_le (position_or_len (λ b. b == number_sign) line) line) (omega arith)))
    (λ (none : list_any (λ b. b == number_sign) line ≡ false).
    subst (λ pieces. size pieces ≤ size (line ∷ lines)) (sym (cond-false (list_any (λ b. b == number_sign) line) _ _ none))
    (step line line lines (without_comment lines) (omega arith) (comment_size lines)))
    (cases_Bool (list_any (λ b. b == number_sign) line))

pub joined_short : (block : List ℕ) → length (join_with_byte space (pieces_of (physical_lines block))) ≤ length block
joined_short block =
    let lines = physical_lines block in
    let plain = without_indents (without_backslashes lines) in
    let last : size (without_comment plain) ≤ length block + 1 =
    omega (arith, comment_size plain, indents_size (without_backslashes lines), backslashes_size lines, whole_size block) in
    omega (arith, join_le space (without_comment plain), last)
