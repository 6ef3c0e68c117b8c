-- The first block of a text, by a search from newline to newline.
use Rattle.std.proofs.Common.{◌≡◌, ℕ, suc, ◌+◌, ◌<◌, true, false, List, [], ◌∷◌, ◌++◌, Some, None, length, get_or, take, drop, arith, refl, sym, ap, ◌∙◌, ◌==◌, append_assoc}
use Rattle.std.proofs.lemmas.Bool.{cond-true, cond-false, false_from_ne_true, eqb-true}
use Rattle.std.proofs.lemmas.List.{take_more, drop-drop, take-append-drop, get_or-take, length-take-le, get_or_default}
use Rattle.std.proofs.lemmas.List.Splits.{slice_split_none, slice_split_at, length-slice_split}
use Rattle.std.proofs.Math.Seq.{take-add}
use Rattle.memchr.specs.Find.{IsFirstByte}
use Rattle.mk_text.proofs.Searches.{split_found, split_whole}
use Rattle.mk_text.specs.Lexical.{newline, physical_lines}
use Rattle.mk_lines.specs.Blocks.{ends_in_backslash, joined_to, blocks_of}

-- an escaped line is the first of the block behind it, and any other is a block
pub blocks-escaped : (line : List ℕ) (lines : List (List ℕ)) → 0 < length lines → ends_in_backslash line ≡ true → blocks_of (line ∷ lines) ≡ joined_to line (blocks_of lines)
blocks-escaped line [] some escaped = absurd (omega arith)
blocks-escaped line (next ∷ lines) some escaped = cond-true (ends_in_backslash line) _ _ escaped

pub blocks-whole : (line : List ℕ) (lines : List (List ℕ)) → 0 < length lines → ends_in_backslash line ≡ false → blocks_of (line ∷ lines) ≡ (line ∷ []) ∷ blocks_of lines
blocks-whole line [] some whole = absurd (omega arith)
blocks-whole line (next ∷ lines) some whole = cond-false (ends_in_backslash line) _ _ whole

pub some_lines : (text : List ℕ) → 0 < length (physical_lines text)
some_lines text = omega (arith, length-slice_split (λ b. b == newline) text)

-- from a place on, what stands before a block belongs to it
abbrev pub BlockFrom : List ℕ → ℕ → ℕ → Type 0
BlockFrom text start count =
    (bytes : List ℕ) (later : List (List (List ℕ))) → blocks_of (physical_lines (drop start text)) ≡ physical_lines bytes ∷ later
    → (blocks_of (physical_lines text) ≡ physical_lines (take start text ++ bytes) ∷ later)
    × (length (physical_lines (take start text ++ bytes)) + 1 ≡ count + length (physical_lines bytes))

module _ (text : List ℕ) (start n : ℕ) (found : IsFirstByte (λ b. b == newline) (drop start text) (Some n)) where
  -- no newline stands in the line
  line-bytes : (k : ℕ) (d : ℕ) → k < length (take n (drop start text)) → (get_or (take n (drop start text)) k d == newline) ≡ false
  line-bytes k d below =
      let high = found.0.high in
      let size : length (take n (drop start text)) ≡ n = length-take-le n (drop start text) (omega arith) in
      let inside : k < n = omega arith in
      let same : get_or (take n (drop start text)) k d ≡ get_or (drop start text) k 0 = get_or-take n (drop start text) k d inside ∙ get_or_default (drop start text) k d 0 (omega arith) in
      ap (λ b. b == newline) same ∙ false_from_ne_true _ (found.0.before k (omega arith) inside)

  -- up to behind the newline
  front_more : (bytes : List ℕ) → take start text ++ (take n (drop start text) ++ newline ∷ bytes) ≡ take (start + n + 1) text ++ bytes
  front_more bytes =
      let high = found.0.high in
      let end : get_or (drop start text) n 0 ≡ newline = eqb-true _ newline found.1 in
      sym (ap (λ front. front ++ bytes) (ap (λ k. take k text) (omega arith) ∙ take-add start (n + 1) text)
      ∙ append_assoc (take start text) (take (n + 1) (drop start text)) bytes
      ∙ ap (λ line. take start text ++ (line ++ bytes)) (take_more (drop start text) n 0 high ∙ ap (λ b. take n (drop start text) ++ b ∷ []) end)
      ∙ ap (λ rest. take start text ++ rest) (append_assoc (take n (drop start text)) (newline ∷ []) bytes))

  rest-lines : physical_lines (drop start text) ≡ take n (drop start text) ∷ physical_lines (drop (start + n + 1) text)
  rest-lines =
      split_found (λ b. b == newline) (drop start text) n found
      ∙ ap (λ rest. take n (drop start text) ∷ physical_lines rest) (drop-drop (n + 1) start text ∙ ap (λ k. drop k text) (omega arith))

  joined-lines : (bytes : List ℕ) → physical_lines (take n (drop start text) ++ newline ∷ bytes) ≡ take n (drop start text) ∷ physical_lines bytes
  joined-lines bytes = slice_split_at (λ b. b == newline) (take n (drop start text)) newline bytes line-bytes refl

  -- an escaped newline is passed over
  pub block_more : (count : ℕ) → ends_in_backslash (take n (drop start text)) ≡ true → BlockFrom text start count → BlockFrom text (start + n + 1) (count + 1)
  block_more count escaped before = λ bytes later is.
      let line = take n (drop start text) in
      let rest = physical_lines (drop (start + n + 1) text) in
      let cut : blocks_of (physical_lines (drop start text)) ≡ physical_lines (line ++ newline ∷ bytes) ∷ later =
      ap blocks_of rest-lines ∙ blocks-escaped line rest (some_lines (drop (start + n + 1) text)) escaped ∙ ap (joined_to line) is
      ∙ ap (λ lines. lines ∷ later) (sym (joined-lines bytes)) in
      let both = before (line ++ newline ∷ bytes) later cut in
      let front = front_more bytes in
      let count_of : length (physical_lines (line ++ newline ∷ bytes)) ≡ suc (length (physical_lines bytes)) = ap length (joined-lines bytes) in (
        both.0 ∙ ap (λ bytes. physical_lines bytes ∷ later) front,
        omega (arith, both.1, ap (λ bytes. length (physical_lines bytes)) front, count_of),
      )

  -- any other ends the block
  pub block_ends : (count : ℕ) → ends_in_backslash (take n (drop start text)) ≡ false → BlockFrom text start count → (blocks_of (physical_lines text) ≡ physical_lines (take (start + n) text) ∷ blocks_of (physical_lines (drop (start + n + 1) text))) × (count ≡ length (physical_lines (take (start + n) text)))
  block_ends count whole before =
      let line = take n (drop start text) in
      let alone : physical_lines line ≡ line ∷ [] = slice_split_none (λ b. b == newline) line line-bytes in
      let cut : blocks_of (physical_lines (drop start text)) ≡ physical_lines line ∷ blocks_of (physical_lines (drop (start + n + 1) text)) =
      ap blocks_of rest-lines ∙ blocks-whole line (physical_lines (drop (start + n + 1) text)) (some_lines (drop (start + n + 1) text)) whole
      ∙ ap (λ lines. lines ∷ blocks_of (physical_lines (drop (start + n + 1) text))) (sym alone) in
      let both = before line (blocks_of (physical_lines (drop (start + n + 1) text))) cut in
      let front : take start text ++ line ≡ take (start + n) text = sym (take-add start n text) in (
        both.0 ∙ ap (λ bytes. physical_lines bytes ∷ blocks_of (physical_lines (drop (start + n + 1) text))) front,
        omega (arith, both.1, ap (λ bytes. length (physical_lines bytes)) front, ap length alone),
      )

pub block_last : (text : List ℕ) (start count : ℕ) → IsFirstByte (λ b. b == newline) (drop start text) None → BlockFrom text start count → (blocks_of (physical_lines text) ≡ physical_lines text ∷ []) × (count ≡ length (physical_lines text))
block_last text start count none before =
    let rest = drop start text in
    let alone : physical_lines rest ≡ rest ∷ [] = split_whole (λ b. b == newline) rest none in
    let both = before rest [] (ap blocks_of alone ∙ ap (λ lines. lines ∷ []) (sym alone)) in
    let whole : take start text ++ rest ≡ text = take-append-drop start text in (
      both.0 ∙ ap (λ bytes. physical_lines bytes ∷ []) whole,
      omega (arith, both.1, ap (λ bytes. length (physical_lines bytes)) whole, ap length alone),
    )
