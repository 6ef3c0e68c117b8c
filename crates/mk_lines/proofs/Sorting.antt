-- What a block is, by its bytes.
use Rattle.std.proofs.Common.{◌≡◌, ℕ, ◌<◌, Bool, true, false, ◌&&◌, List, [], ◌∷◌, Ok, None, length, get_or, drop, arith, refl, sym, ap, ◌∙◌, ◌==◌, ⊎_elim}
use Rattle.std.specs.List.{join_with_byte, onto_first}
use Rattle.std.proofs.lemmas.Bool.{cases_Bool, cond-true, cond-false, and_right, and_left}
use Rattle.std.proofs.lemmas.List.Splits.{join_with_byte-slice_split, slice_split-cons_yes, slice_split-cons_no}
use Rattle.mk_lines.proofs.Cuts.{some_lines}
use Rattle.mk_text.specs.Lexical.{tab, newline, space, is_blank, are_blanks, physical_lines}
use Rattle.mk_lines.specs.LogicalLines.{bytes_of, is_empty, line_pieces, pieces_of, kind_of, kind_of_command, kind_of_text}

-- a byte before the first line
empty-onto : (x : ℕ) (lines : List (List ℕ)) → 0 < length lines → is_empty (onto_first x lines) ≡ (is_blank x && is_empty lines)
empty-onto x [] some = absurd (omega arith)
empty-onto x (line ∷ []) some = refl
empty-onto x (line ∷ next ∷ lines) some = sym (and_right (is_blank x) false refl)

empty-line : (lines : List (List ℕ)) → 0 < length lines → is_empty ([] ∷ lines) ≡ false
empty-line [] some = absurd (omega arith)
empty-line (line ∷ lines) some = refl

newline-no_blank : (x : ℕ) → (x == newline) ≡ true → is_blank x ≡ false
newline-no_blank x is = grind arith

empty_is : (text : List ℕ) → is_empty (physical_lines text) ≡ are_blanks text
empty_is [] = refl
empty_is (x ∷ xs) =
    ⊎_elim
    (λ (ends : (x == newline) ≡ true).
    ap is_empty (slice_split-cons_yes (λ b. b == newline) x xs ends) ∙ empty-line (physical_lines xs) (some_lines xs)
    ∙ sym (and_left (is_blank x) (are_blanks xs) (newline-no_blank x ends)))
    (λ (other : (x == newline) ≡ false).
    ap is_empty (slice_split-cons_no (λ b. b == newline) x xs other) ∙ empty-onto x (physical_lines xs) (some_lines xs)
    ∙ ap (λ blank. is_blank x && blank) (empty_is xs))
    (cases_Bool (x == newline))

pub whole_bytes : (text : List ℕ) → bytes_of (physical_lines text) ≡ text
whole_bytes text = join_with_byte-slice_split newline text

module _ (block : List ℕ) where
  pub sorted_blank : (below : Bool) → are_blanks block ≡ true → kind_of below (physical_lines block) ≡ Ok None
  sorted_blank below blank = cond-true (is_empty (physical_lines block)) _ _ (empty_is block ∙ blank)

  tab-first : (t : Bool) → (get_or block 0 0 == tab) ≡ t → (get_or (bytes_of (physical_lines block)) 0 0 == tab) ≡ t
  tab-first t is = ap (λ bytes. get_or bytes 0 0 == tab) (whole_bytes block) ∙ is

  pub sorted_command : (below : Bool) → are_blanks block ≡ false → (get_or block 0 0 == tab) ≡ true → kind_of below (physical_lines block) ≡ kind_of_command below block
  sorted_command below some command =
      cond-false (is_empty (physical_lines block)) _ _ (empty_is block ∙ some)
      ∙ cond-true (get_or (bytes_of (physical_lines block)) 0 0 == tab) _ _ (tab-first true command)
      ∙ ap (kind_of_command below) (whole_bytes block)

  pub sorted_text : (below : Bool) → are_blanks block ≡ false → (get_or block 0 0 == tab) ≡ false → kind_of below (physical_lines block) ≡ kind_of_text (join_with_byte space (pieces_of (physical_lines block)))
  sorted_text below some text =
      cond-false (is_empty (physical_lines block)) _ _ (empty_is block ∙ some)
      ∙ cond-false (get_or (bytes_of (physical_lines block)) 0 0 == tab) _ _ (tab-first false text)

  pub pieces_command : (get_or block 0 0 == tab) ≡ true → line_pieces (physical_lines block) ≡ drop 1 block ∷ []
  pieces_command command =
      cond-true (get_or (bytes_of (physical_lines block)) 0 0 == tab) _ _ (tab-first true command)
      ∙ ap (λ bytes. drop 1 bytes ∷ []) (whole_bytes block)

  pub pieces_text : (get_or block 0 0 == tab) ≡ false → line_pieces (physical_lines block) ≡ pieces_of (physical_lines block)
  pieces_text text = cond-false (get_or (bytes_of (physical_lines block)) 0 0 == tab) _ _ (tab-first false text)
