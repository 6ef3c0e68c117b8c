-- The pieces of lines stand in the text.
use Rattle.std.proofs.Common.{◌≡◌, ℕ, ◌-◌, true, false, List, [], ◌∷◌, ◌++◌, Option, Some, None, Bor, Result, Ok, Err, length, map, take, drop, get_or, refl, sym, ap, subst, ◌∙◌, append_assoc, ◌==◌, ⊎_elim}
use Rattle.std.specs.List.{before_first, flat_map, list_any, position_or_len, prefix_len}
use Rattle.std.specs.Option.{option_map_or}
use Rattle.std.proofs.lemmas.Bool.{cases_Bool, cond-true, cond-false}
use Rattle.std.proofs.lemmas.List.{append-nil, take-append-drop}
use Rattle.std.proofs.lemmas.List.Concat.{flat_map-append}
use Rattle.mk_name.specs.declared.fault.Kind.{Kind}
use Rattle.mk_lines.specs.declared.line.LineKind.{LineKind}
use Rattle.mk_lines.specs.LogicalLine.{LogicalLine}
use Rattle.mk_lines.proofs.Sorting.{whole_bytes}
use Rattle.mk_text.specs.Lexical.{tab, newline, is_blank, past_blanks, physical_lines, number_sign}
use Rattle.mk_lines.specs.Slices.{StandIn}
use Rattle.mk_lines.specs.LogicalLines.{bytes_of, line_at, line_pieces, without_backslashes, without_comment, without_indents}

abbrev pub all_pieces : List LogicalLine → List (List ℕ)
all_pieces lines = flat_map (λ line. line.pieces) lines

-- what stands in a text stands behind a gap too
stand_behind : (gap text : List ℕ) (parts : List (List ℕ)) → StandIn text parts → StandIn (gap ++ text) parts
stand_behind gap text [] stands = tt
stand_behind gap text (part ∷ parts) stands =
    (gap ++ stands.0, stands.1, ap (λ bytes. gap ++ bytes) stands.2 ∙ simp append_assoc, stands.3)

stand_append : (one two : List ℕ) (parts others : List (List ℕ)) → StandIn one parts → StandIn two others → StandIn (one ++ two) (parts ++ others)
stand_append one two [] others first second = stand_behind one two others second
stand_append one two (part ∷ parts) others first second =
    (first.0, first.1 ++ two, ap (λ bytes. bytes ++ two) first.2 ∙ simp append_assoc, stand_append first.1 two parts others first.3 second)

-- a part of a part stands there too, before what stands in all that the others stand in
stand_part : (text part small front back : List ℕ) (parts others : List (List ℕ)) → part ≡ front ++ small ++ back → StandIn text (part ∷ parts) → ((rest : List ℕ) → StandIn rest parts → StandIn rest others) → StandIn text (small ∷ others)
stand_part text part small front back parts others is stands keep =
    (stands.0 ++ front, back ++ stands.1, stands.2 ∙ ap (λ part. stands.0 ++ part ++ stands.1) is ∙ simp append_assoc, stand_behind back stands.1 others (keep stands.1 stands.3))

stand_first : (text part : List ℕ) (parts others : List (List ℕ)) → StandIn text (part ∷ parts) → ((rest : List ℕ) → StandIn rest parts → StandIn rest others) → StandIn text (part ∷ others)
stand_first text part parts others stands keep = (stands.0, stands.1, stands.2, keep stands.1 stands.3)

-- the physical lines of a block
block-lines_stand : (block : List (List ℕ)) → StandIn (bytes_of block) block
block-lines_stand [] = tt
block-lines_stand (line ∷ []) = ([], [], sym (append-nil line), tt)
block-lines_stand (line ∷ next ∷ lines) = ([], newline ∷ bytes_of (next ∷ lines), refl, stand_behind (newline ∷ []) (bytes_of (next ∷ lines)) (next ∷ lines) (block-lines_stand (next ∷ lines)))

stand_backslashes : (lines : List (List ℕ)) (text : List ℕ) → StandIn text lines → StandIn text (without_backslashes lines)
stand_backslashes [] text stands = stands
stand_backslashes (line ∷ []) text stands = stands
stand_backslashes (line ∷ next ∷ lines) text stands =
    stand_part text line (take (length line - 1) line) [] (drop (length line - 1) line) (next ∷ lines) (without_backslashes (next ∷ lines))
    (sym (take-append-drop (length line - 1) line)) stands (stand_backslashes (next ∷ lines))

stand_past : (lines : List (List ℕ)) (text : List ℕ) → StandIn text lines → StandIn text (map past_blanks lines)
stand_past [] text stands = stands
stand_past (line ∷ lines) text stands =
    stand_part text line (past_blanks line) (take (prefix_len is_blank line) line) [] lines (map past_blanks lines)
    (sym (append-nil (take (prefix_len is_blank line) line ++ past_blanks line) ∙ take-append-drop (prefix_len is_blank line) line)) stands (stand_past lines)

stand_indents : (lines : List (List ℕ)) (text : List ℕ) → StandIn text lines → StandIn text (without_indents lines)
stand_indents [] text stands = stands
stand_indents (line ∷ lines) text stands = stand_first text line lines (map past_blanks lines) stands (stand_past lines)

stand_comment : (lines : List (List ℕ)) (text : List ℕ) → StandIn text lines → StandIn text (without_comment lines)
stand_comment [] text stands = stands
stand_comment (line ∷ lines) text stands =
    ⊎_elim
    (λ (some : list_any (λ b. b == number_sign) line ≡ true).
    subst (StandIn text) (sym (cond-true (list_any (λ b. b == number_sign) line) _ _ some))
    (stand_part text line (before_first (λ b. b == number_sign) line) [] (drop (position_or_len (λ b. b == number_sign) line) line) lines []
    (sym (take-append-drop (position_or_len (λ b. b == number_sign) line) line)) stands (λ rest others. tt)))
    (λ (none : list_any (λ b. b == number_sign) line ≡ false).
    subst (StandIn text) (sym (cond-false (list_any (λ b. b == number_sign) line) _ _ none))
    (stand_first text line lines (without_comment lines) stands (stand_comment lines)))
    (cases_Bool (list_any (λ b. b == number_sign) line))

block_stands : (block : List (List ℕ)) → StandIn (bytes_of block) (line_pieces block)
block_stands block =
    ⊎_elim
    (λ (command : (get_or (bytes_of block) 0 0 == tab) ≡ true).
    subst (StandIn (bytes_of block)) (sym (cond-true (get_or (bytes_of block) 0 0 == tab) _ _ command))
    (take 1 (bytes_of block), [], sym (append-nil (take 1 (bytes_of block) ++ drop 1 (bytes_of block)) ∙ take-append-drop 1 (bytes_of block)), tt))
    (λ (text : (get_or (bytes_of block) 0 0 == tab) ≡ false).
    subst (StandIn (bytes_of block)) (sym (cond-false (get_or (bytes_of block) 0 0 == tab) _ _ text))
    (stand_comment (without_indents (without_backslashes block)) (bytes_of block)
    (stand_indents (without_backslashes block) (bytes_of block) (stand_backslashes block (bytes_of block) (block-lines_stand block)))))
    (cases_Bool (get_or (bytes_of block) 0 0 == tab))

-- the pieces of the line that a block is stand in its bytes
pub line_stands : (n : ℕ) (bytes : List ℕ) (sort : Result (Option LineKind) Kind) (line : LogicalLine) → line_at n (physical_lines bytes) sort ≡ Ok (Some line) → StandIn bytes line.pieces
line_stands n bytes (Err kind) line is = absurd (cc)
line_stands n bytes (Ok None) line is = absurd (cc)
line_stands n bytes (Ok (Some kind)) line is =
    let pieces : line_pieces (physical_lines bytes) ≡ line.pieces = of_line kind is in
    subst (λ parts. StandIn bytes parts) pieces (subst (λ text. StandIn text (line_pieces (physical_lines bytes))) (whole_bytes bytes) (block_stands (physical_lines bytes)))
  where
    of_line : (kind : LineKind) → line_at n (physical_lines bytes) (Ok (Some kind)) ≡ Ok (Some line) → line_pieces (physical_lines bytes) ≡ line.pieces
    of_line kind is =
        let first : LogicalLine = record { kind = kind; first_line = n; pieces = line_pieces (physical_lines bytes) } in
        let same : first ≡ line = cc in
        ap (λ line. line.pieces) same

-- what stands in the rest stands in the text behind the pieces found
abbrev pub Behind : List ℕ → List LogicalLine → Option (Bor (List ℕ)) → Type 0
Behind text found rest = (others : List (List ℕ)) → StandIn (option_map_or (λ rest. rest.now) rest []) others → StandIn text (all_pieces found ++ others)

newline-gap : (later : Option (Bor (List ℕ))) (others : List (List ℕ)) → StandIn (option_map_or (λ rest. rest.now) later []) others → StandIn (option_map_or (λ rest. newline ∷ rest.now) later []) others
newline-gap None others rest = rest
newline-gap (Some b) others rest = stand_behind (newline ∷ []) b.now others rest

-- the pieces of one block more; its closing newline is a gap
pub behind_more : (text : List ℕ) (done found : List LogicalLine) (bytes : List ℕ) (b : Bor (List ℕ)) (later : Option (Bor (List ℕ))) (line : LogicalLine) → Behind text done (Some b) → b.now ≡ bytes ++ option_map_or (λ rest. newline ∷ rest.now) later [] → StandIn bytes line.pieces → found ≡ done ++ line ∷ [] → Behind text found later
behind_more text done found bytes b later line before is stands pushed = λ others rest.
    let gap : List ℕ = option_map_or (λ rest. newline ∷ rest.now) later [] in
    let both : StandIn b.now (line.pieces ++ others) = subst (λ text. StandIn text (line.pieces ++ others)) (sym is) (stand_append bytes gap line.pieces others stands (newline-gap later others rest)) in
    let one : all_pieces (line ∷ []) ≡ line.pieces = append-nil line.pieces in
    let all : all_pieces found ++ others ≡ all_pieces done ++ (line.pieces ++ others) =
    ap (λ lines. all_pieces lines ++ others) pushed ∙ ap (λ pieces. pieces ++ others) (flat_map-append (λ line. line.pieces) done (line ∷ []) ∙ ap (λ pieces. all_pieces done ++ pieces) one)
    ∙ append_assoc (all_pieces done) line.pieces others in
    subst (StandIn text) (sym all) (before (line.pieces ++ others) both)

pub behind_none : (text : List ℕ) (done : List LogicalLine) (bytes : List ℕ) (b : Bor (List ℕ)) (later : Option (Bor (List ℕ))) → Behind text done (Some b) → b.now ≡ bytes ++ option_map_or (λ rest. newline ∷ rest.now) later [] → Behind text done later
behind_none text done bytes b later before is = λ others rest. before others (subst (λ bytes. StandIn bytes others) (sym is) (stand_behind bytes (option_map_or (λ rest. newline ∷ rest.now) later []) others (newline-gap later others rest)))
