-- The logical lines of a makefile (POSIX.1-2024 XCU make, "Makefile Syntax", and the profile).
-- A text is cut into blocks of physical lines, and each block is nothing, one logical line, or a fault.
use Rattle.std.specs.Prelude.{ℕ, ◌+◌, ◌-◌, Bool, true, false, List, [], ◌∷◌, length, take, drop, map, codes, slice_get, slice_index, Option, None, Some, Result, Ok, Err, ◌==◌, ◌&&◌, ◌||◌, nat_lt, not, if◌then◌else◌}
use Rattle.std.specs.List.{join_with_byte, list_any, before_first, filter_map, last_or, prefix_len, sum_by}
use Rattle.std.specs.Option.{option_and_then, option_flatten, option_map, option_map_or, unwrap_or}
use Rattle.std.specs.Result.{result_err, result_ok}
use Rattle.std.specs.Str.{bytes_eq}
use Rattle.mk_name.specs.Reported.{Reported}
use Rattle.mk_name.specs.declared.fault.Kind.{Kind}
use Rattle.mk_name.specs.declared.fault.Kind.TheVariants.{NoColon, StrayRecipe, DoubleColon, BadAssignment, TextTooLarge}
use Rattle.mk_name.specs.declared.fault.Source.TheVariants.{Makefile}
use Rattle.mk_lines.specs.declared.line.Operator.{Operator}
use Rattle.mk_lines.specs.declared.line.Operator.TheVariants.{Delayed, Immediate, Append, Conditional}
use Rattle.mk_lines.specs.declared.line.LineKind.{LineKind}
use Rattle.mk_lines.specs.declared.line.LineKind.TheVariants.{Assign, Entry, Recipe, Include}
use Rattle.mk_lines.specs.LogicalLine.{LogicalLine}
use Rattle.mk_text.specs.Lexical.{tab, newline, space, is_blank, are_blanks, past_blanks, physical_lines, number_sign, colon, semicolon, equals, is_macro_name}
use Rattle.mk_lines.specs.Blocks.{blocks_of}
use Rattle.mk_lines.specs.Outside.{place_outside}

-- the first word of a text, and what stands from its second word on
abbrev pub first_word : List ℕ → List ℕ
first_word text = before_first is_blank (past_blanks text)

abbrev pub later_words : List ℕ → List ℕ
later_words text = past_blanks (drop (length (first_word text)) (past_blanks text))

-- a text that begins with `:`, `=`, `?=`, `+=` or `!=`
abbrev pub begins_with_operator : List ℕ → Bool
begins_with_operator text =
    let first = slice_index text 0 in
    first == colon || first == equals || ((first == 63 || first == 43 || first == 33) && slice_index text 1 == equals)

-- an include line: the first word is `include` or `-include`, and no operator follows it
abbrev pub is_include : List ℕ → Bool
is_include text =
    (bytes_eq (first_word text) (codes "include") || bytes_eq (first_word text) (codes "-include"))
    && not (begins_with_operator (later_words text))

-- such a line: whether its first word has a hyphen in front, and where that word has ended
abbrev pub include : List ℕ → LineKind
include text = Include (slice_index (first_word text) 0 == 45) (prefix_len is_blank text + length (first_word text))

-- an assignment whose operator begins and ends at these places: the name is the one word before it
abbrev pub assignment : List ℕ → Operator → ℕ → ℕ → Result (Option LineKind) Kind
assignment text operator start end =
    let before = take start text in
    let name_start = prefix_len is_blank before in
    let name = first_word before in
    if is_macro_name name && length (later_words before) == 0
    then Ok (Some (Assign name_start (name_start + length name) operator (end + prefix_len is_blank (drop end text))))
    else Err BadAssignment

-- the first sign is the `=` at this place: what is right before it says which operator
abbrev pub at_equals : List ℕ → ℕ → Result (Option LineKind) Kind
at_equals text at =
    let before = if at == 0 then 0 else slice_index text (at - 1) in
    if before == 63 then assignment text Conditional (at - 1) (at + 1)
    else (if before == 43 then assignment text Append (at - 1) (at + 1)
    else (if before == 33 then Err BadAssignment
    else assignment text Delayed at (at + 1)))

-- an entry with its colon at this place, and its semicolon at the first one behind it outside of references
abbrev pub entry : List ℕ → ℕ → Result (Option LineKind) Kind
entry text at =
    Ok (Some (Entry at (option_map (λ n. at + 1 + n) (place_outside (λ b. b == semicolon) (drop (at + 1) text)))))

-- the first sign is the `:` at this place: by what follows it an immediate assignment differs from an entry
abbrev pub at_colon : List ℕ → ℕ → Result (Option LineKind) Kind
at_colon text at =
    let one = slice_index text (at + 1) in
    let two = slice_index text (at + 2) in
    let three = slice_index text (at + 3) in
    if one == equals then assignment text Immediate at (at + 2)
    else (if not (one == colon) then entry text at
    else (if two == equals then assignment text Immediate at (at + 3)
    else (if two == colon && three == equals then Err BadAssignment
    else Err DoubleColon)))

-- the first `:` or `=` outside of references decides
abbrev pub by_sign : List ℕ → Option ℕ → Result (Option LineKind) Kind
by_sign text None = Err NoColon
by_sign text (Some at) = if slice_index text at == equals then at_equals text at else at_colon text at

-- what the text of a block is that does not begin with a tab
abbrev pub kind_of_text : List ℕ → Result (Option LineKind) Kind
kind_of_text text =
    if are_blanks text then Ok None
    else (if is_include text then Ok (Some (include text))
    else by_sign text (place_outside (λ b. b == colon || b == equals) text))

-- the lines of a block without the backslashes of its escaped newlines
abbrev pub without_backslashes : List (List ℕ) → List (List ℕ)
without_backslashes [] = []
without_backslashes (line ∷ []) = line ∷ []
without_backslashes (line ∷ next ∷ lines) = take (length line - 1) line ∷ without_backslashes (next ∷ lines)

-- each after the first without the blanks at its front
abbrev pub without_indents : List (List ℕ) → List (List ℕ)
without_indents [] = []
without_indents (line ∷ lines) = line ∷ map past_blanks lines

-- up to the first `#`
abbrev pub without_comment : List (List ℕ) → List (List ℕ)
without_comment [] = []
without_comment (piece ∷ pieces) =
    if list_any (λ b. b == number_sign) piece then before_first (λ b. b == number_sign) piece ∷ []
    else piece ∷ without_comment pieces

-- the pieces of a block that does not begin with a tab
abbrev pub pieces_of : List (List ℕ) → List (List ℕ)
pieces_of block = without_comment (without_indents (without_backslashes block))

-- the bytes of a block, with its escaped newlines
abbrev pub bytes_of : List (List ℕ) → List ℕ
bytes_of block = join_with_byte newline block

-- a block of one physical line of blanks
abbrev pub is_empty : List (List ℕ) → Bool
is_empty [] = true
is_empty (line ∷ []) = are_blanks line
is_empty (line ∷ next ∷ lines) = false

-- what a block with a tab in front is, unless it is empty: a command line where an entry is open, else a comment or a fault
abbrev pub kind_of_command : Bool → List ℕ → Result (Option LineKind) Kind
kind_of_command below bytes =
    if below then Ok (Some Recipe)
    else (if slice_index (past_blanks bytes) 0 == number_sign then Ok None else Err StrayRecipe)

-- what a block is: nothing, a line of this kind, or a fault; it may stand below an entry that is open
abbrev pub kind_of : Bool → List (List ℕ) → Result (Option LineKind) Kind
kind_of below block =
    if is_empty block then Ok None
    else (if slice_index (bytes_of block) 0 == tab then kind_of_command below (bytes_of block)
    else kind_of_text (join_with_byte space (pieces_of block)))

-- the pieces of the line that a block is: one that begins with a tab has one, all of it without the tab
abbrev pub line_pieces : List (List ℕ) → List (List ℕ)
line_pieces block = if slice_index (bytes_of block) 0 == tab then drop 1 (bytes_of block) ∷ [] else pieces_of block

-- whether a line of this kind opens an entry: an assignment and an include line close it, and a command line leaves it
abbrev pub opening : LineKind → Option Bool
opening (Entry at behind) = Some true
opening (Assign from to operator value) = Some false
opening Recipe = None
opening (Include hyphen rest) = Some false

-- the same of a block; only a line that begins with a tab depends on what is open
abbrev pub block_opening : List (List ℕ) → Option Bool
block_opening block = option_and_then opening (option_flatten (result_ok (kind_of false block)))

-- whether an entry is open below these blocks: the last entry, assignment or include line among them is an entry
abbrev pub is_open : List (List (List ℕ)) → Bool
is_open blocks = unwrap_or (last_or None (filter_map block_opening blocks)) false

-- the number of the first physical line below these blocks, from 1
abbrev pub line_below : List (List (List ℕ)) → ℕ
line_below blocks = sum_by length blocks + 1

-- a fault of a makefile's line
abbrev pub fault_at : Kind → ℕ → Reported
fault_at kind place = record { kind = kind; source = Makefile; place = place; names = [] }

-- the line, if any, that a block of this sort is from physical line n on
abbrev pub line_at : ℕ → List (List ℕ) → Result (Option LineKind) Kind → Result (Option LogicalLine) Reported
line_at n block (Err kind) = Err (fault_at kind n)
line_at n block (Ok None) = Ok None
line_at n block (Ok (Some kind)) = Ok (Some (record { kind = kind; first_line = n; pieces = line_pieces block }))

-- the line, if any, that a block is below these blocks
abbrev pub line_of : List (List (List ℕ)) → List (List ℕ) → Result (Option LogicalLine) Reported
line_of above block = line_at (line_below above) block (kind_of (is_open above) block)

-- each block with all that stand above it
abbrev pub with_above : List (List (List ℕ)) → List (List (List (List ℕ)) × List (List ℕ))
with_above [] = []
with_above (block ∷ blocks) = ([], block) ∷ map (λ p. (block ∷ p.0, p.1)) (with_above blocks)

-- what each block gives: a line, nothing or a fault
abbrev pub answers : List (List (List ℕ)) → List (Result (Option LogicalLine) Reported)
answers blocks = map (λ p. line_of p.0 p.1) (with_above blocks)

-- the first fault of all, or else their lines
abbrev pub lines_or_fault : List (Result (Option LogicalLine) Reported) → Result (List LogicalLine) Reported
lines_or_fault given =
    option_map_or (λ fault. Err fault) (slice_get (filter_map result_err given) 0)
    (Ok (filter_map (λ answer. option_flatten (result_ok answer)) given))

-- a text may have so many bytes
abbrev pub text_limit : ℕ
text_limit = 1048576

-- the logical lines of a text, or its fault
abbrev pub logical_lines : List ℕ → Result (List LogicalLine) Reported
logical_lines text =
    if nat_lt text_limit (length text) then Err (fault_at TextTooLarge 0)
    else lines_or_fault (answers (blocks_of (physical_lines text)))
