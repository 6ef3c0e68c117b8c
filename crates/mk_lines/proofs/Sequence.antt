-- The lines of a text, block by block.
use Rattle.std.proofs.Common.{◌≡◌, ℕ, ◌+◌, ◌≤◌, ltb, Bool, true, false, cond, List, [], ◌∷◌, ◌++◌, Option, Some, None, Result, Ok, Err, length, map, get_or, arith, refl, sym, ap, ◌∙◌, append_assoc, ◌==◌}
use Rattle.std.specs.Prelude.{slice_get}
use Rattle.std.specs.List.{cons_option, filter_map, join_with_byte, last_or}
use Rattle.std.specs.Option.{option_and_then, option_flatten, option_map_or, unwrap_or}
use Rattle.std.specs.Result.{result_err, result_map_both, result_ok}
use Rattle.std.proofs.lemmas.Bool.{cond-false, le-ltb}
use Rattle.std.proofs.lemmas.List.{append-nil}
use Rattle.std.proofs.lemmas.List.Elements.{filter_map-append}
use Rattle.std.proofs.lemmas.List.Sums.{sum_by_push}
use Rattle.mk_name.specs.Reported.{Reported}
use Rattle.mk_name.specs.Gives.{Halts}
use Rattle.mk_name.specs.declared.fault.Halt.{Halt}
use Rattle.mk_name.specs.declared.fault.Halt.TheVariants as halts
use Rattle.mk_name.specs.declared.fault.Kind.{Kind}
use Rattle.mk_name.specs.declared.fault.Kind.TheVariants.{StrayRecipe}
use Rattle.mk_lines.specs.declared.line.LineKind.{LineKind}
use Rattle.mk_lines.specs.declared.line.LineKind.TheVariants.{Recipe}
use Rattle.mk_lines.specs.LogicalLine.{LogicalLine}
use Rattle.mk_text.specs.Lexical.{tab, past_blanks, physical_lines, space, number_sign}
use Rattle.mk_lines.specs.Blocks.{blocks_of}
use Rattle.mk_lines.specs.LogicalLines.{answers, block_opening, bytes_of, is_empty, is_open, line_at, line_below, line_of, lines_or_fault, logical_lines, opening, pieces_of, kind_of, kind_of_text, text_limit, with_above}

-- whether an entry is open behind a block of this sort
abbrev pub opens : Bool → Result (Option LineKind) Kind → Bool
opens below sort = unwrap_or (option_and_then opening (option_flatten (result_ok sort))) below

-- what a block gives, before what the later ones give
abbrev pub onto : Result (Option LogicalLine) Reported → Result (List LogicalLine) Reported → Result (List LogicalLine) Reported
onto (Err fault) later = Err fault
onto (Ok None) later = later
onto (Ok (Some line)) later = result_map_both (λ lines. line ∷ lines) (λ fault. fault) later

-- the lines of some blocks, from physical line n on, below an entry that may be open; or the first fault
abbrev pub lines_from : Bool → ℕ → List (List (List ℕ)) → Result (List LogicalLine) Reported
lines_from below n [] = Ok []
lines_from below n (block ∷ blocks) =
    onto (line_at n block (kind_of below block)) (lines_from (opens below (kind_of below block)) (n + length block) blocks)

-- some lines, and then what is to come
abbrev pub joined : List LogicalLine → Result (List LogicalLine) Reported → Result (List LogicalLine) Reported
joined done later = result_map_both (λ lines. done ++ lines) (λ fault. fault) later

joined-push : (done : List LogicalLine) (line : LogicalLine) (later : Result (List LogicalLine) Reported) → joined done (result_map_both (λ lines. line ∷ lines) (λ fault. fault) later) ≡ joined (done ++ line ∷ []) later
joined-push done line (Ok lines) = ap Ok (sym (append_assoc done (line ∷ []) lines))
joined-push done line (Err fault) = refl

pub joined-none : (later : Result (List LogicalLine) Reported) → later ≡ joined [] later
joined-none (Ok lines) = refl
joined-none (Err fault) = refl

-- a line says what its block is
sort-line : (n : ℕ) (block : List (List ℕ)) (sort : Result (Option LineKind) Kind) (line : LogicalLine) → line_at n block sort ≡ Ok (Some line) → sort ≡ Ok (Some line.kind)
sort-line n block (Err kind) line is = absurd (cc)
sort-line n block (Ok None) line is = absurd (cc)
sort-line n block (Ok (Some kind)) line is = cc

sort-none : (n : ℕ) (block : List (List ℕ)) (sort : Result (Option LineKind) Kind) → line_at n block sort ≡ Ok None → sort ≡ Ok None
sort-none n block (Err kind) is = absurd (cc)
sort-none n block (Ok None) is = refl
sort-none n block (Ok (Some kind)) is = absurd (cc)

-- one block more
module _ (start : Result (List LogicalLine) Reported) (done : List LogicalLine) (below : Bool) (n : ℕ) (block : List (List ℕ)) (blocks later : List (List (List ℕ))) (whole : start ≡ joined done (lines_from below n blocks)) (cut : blocks ≡ block ∷ later) where
  first-block : start ≡ joined done (onto (line_at n block (kind_of below block)) (lines_from (opens below (kind_of below block)) (n + length block) later))
  first-block = whole ∙ ap (λ blocks. joined done (lines_from below n blocks)) cut

  pub more_none : (found : List LogicalLine) (opened : Bool) (count : ℕ) → line_at n block (kind_of below block) ≡ Ok None → found ≡ done → opened ≡ below → count ≡ length block → start ≡ joined found (lines_from opened (n + count) later)
  more_none found opened count gives kept behind size =
      first-block
      ∙ ap (λ given. joined done (onto given (lines_from (opens below (kind_of below block)) (n + length block) later))) gives
      ∙ ap (λ sort. joined done (lines_from (opens below sort) (n + length block) later)) (sort-none n block (kind_of below block) gives)
      ∙ ap (λ opened. joined done (lines_from opened (n + length block) later)) (sym behind)
      ∙ ap (λ lines. joined lines (lines_from opened (n + length block) later)) (sym kept)
      ∙ ap (λ count. joined found (lines_from opened (n + count) later)) (sym size)

  pub more_line : (line : LogicalLine) (found : List LogicalLine) (opened : Bool) (count : ℕ) → line_at n block (kind_of below block) ≡ Ok (Some line) → found ≡ done ++ line ∷ [] → opened ≡ unwrap_or (opening line.kind) below → count ≡ length block → start ≡ joined found (lines_from opened (n + count) later)
  more_line line found opened count gives pushed behind size =
      first-block
      ∙ ap (λ given. joined done (onto given (lines_from (opens below (kind_of below block)) (n + length block) later))) gives
      ∙ joined-push done line (lines_from (opens below (kind_of below block)) (n + length block) later)
      ∙ ap (λ sort. joined (done ++ line ∷ []) (lines_from (opens below sort) (n + length block) later)) (sort-line n block (kind_of below block) line gives)
      ∙ ap (λ opened. joined (done ++ line ∷ []) (lines_from opened (n + length block) later)) (sym behind)
      ∙ ap (λ lines. joined lines (lines_from opened (n + length block) later)) (sym pushed)
      ∙ ap (λ count. joined found (lines_from opened (n + count) later)) (sym size)

  more_fault : (fault : Reported) → line_at n block (kind_of below block) ≡ Err fault → start ≡ Err fault
  more_fault fault gives =
      first-block
      ∙ ap (λ given. joined done (onto given (lines_from (opens below (kind_of below block)) (n + length block) later))) gives

  pub more_halt : (halt : Halt) → Halts halt (line_at n block (kind_of below block)) → Halts halt start
  more_halt halts.Memory gives = tt
  more_halt (halts.Fault fault) gives = more_fault fault gives

-- the definition, a block at a time
onto-given : (given : Result (Option LogicalLine) Reported) (rest : List (Result (Option LogicalLine) Reported)) → lines_or_fault (given ∷ rest) ≡ onto given (lines_or_fault rest)
onto-given (Err fault) rest = refl
onto-given (Ok None) rest = refl
onto-given (Ok (Some line)) rest = by (slice_get (filter_map result_err rest) 0)
  where
    by : (first : Option Reported) → option_map_or (λ fault. Err fault) first (Ok (line ∷ filter_map (λ answer. option_flatten (result_ok answer)) rest)) ≡ result_map_both (λ lines. line ∷ lines) (λ fault. fault) (option_map_or (λ fault. Err fault) first (Ok (filter_map (λ answer. option_flatten (result_ok answer)) rest)))
    by None = refl
    by (Some fault) = refl

-- what blocks give that stand below others
abbrev given_below : List (List (List ℕ)) → List (List (List ℕ)) × List (List ℕ) → Result (Option LogicalLine) Reported
given_below above p = line_of (above ++ p.0) p.1

abbrev answers_below : List (List (List ℕ)) → List (List (List ℕ)) → List (Result (Option LogicalLine) Reported)
answers_below above blocks = map (given_below above) (with_above blocks)

abbrev under : List (List ℕ) → List (List (List ℕ)) × List (List ℕ) → List (List (List ℕ)) × List (List ℕ)
under block p = (block ∷ p.0, p.1)

answers-cons : (above : List (List (List ℕ))) (block : List (List ℕ)) (blocks : List (List (List ℕ))) → answers_below above (block ∷ blocks) ≡ line_of (above ++ []) block ∷ answers_below (above ++ block ∷ []) blocks
answers-cons above block blocks = ap (λ given. line_of (above ++ []) block ∷ given) (by (with_above blocks))
  where
    by : (parts : List (List (List (List ℕ)) × List (List ℕ))) → map (given_below above) (map (under block) parts) ≡ map (given_below (above ++ block ∷ [])) parts
    by [] = refl
    by (p ∷ parts) =
        ap (λ front. line_of front p.1 ∷ map (given_below above) (map (under block) parts)) (sym (append_assoc above (block ∷ []) p.0))
        ∙ ap (λ given. line_of ((above ++ block ∷ []) ++ p.0) p.1 ∷ given) (by parts)

-- what is open does not matter to what a block opens
opening-same : (below : Bool) (block : List (List ℕ)) → unwrap_or (block_opening block) below ≡ opens below (kind_of below block)
opening-same below block = by below (is_empty block) (get_or (bytes_of block) 0 0 == tab) (get_or (past_blanks (bytes_of block)) 0 0 == number_sign) (kind_of_text (join_with_byte space (pieces_of block)))
  where
    by : (below empty command comment : Bool) (text : Result (Option LineKind) Kind)
        → opens below (cond empty (Ok None) (cond command (cond comment (Ok None) (Err StrayRecipe)) text))
        ≡ opens below (cond empty (Ok None) (cond command (cond below (Ok (Some Recipe)) (cond comment (Ok None) (Err StrayRecipe))) text))
    by below true command comment text = refl
    by true false true true text = refl
    by true false true false text = refl
    by false false true comment text = refl
    by below false false comment text = refl

last-push : (first : Option Bool) (all : List Bool) (more : Option Bool) → unwrap_or (last_or first (all ++ cons_option more [])) false ≡ unwrap_or more (unwrap_or (last_or first all) false)
last-push first [] None = refl
last-push first [] (Some one) = refl
last-push first (one ∷ all) more = last-push (Some one) all more

open-push : (above : List (List (List ℕ))) (block : List (List ℕ)) → is_open (above ++ block ∷ []) ≡ unwrap_or (block_opening block) (is_open above)
open-push above block =
    ap (λ all. unwrap_or (last_or None all) false) (filter_map-append block_opening above (block ∷ []))
    ∙ last-push None (filter_map block_opening above) (block_opening block)

below-push : (above : List (List (List ℕ))) (block : List (List ℕ)) → line_below (above ++ block ∷ []) ≡ line_below above + length block
below-push above block = omega (arith, sum_by_push length above block)

threaded : (above blocks : List (List (List ℕ))) → lines_or_fault (answers_below above blocks) ≡ lines_from (is_open above) (line_below above) blocks
threaded above [] = refl
threaded above (block ∷ blocks) =
    let sort = kind_of (is_open above) block in
    ap lines_or_fault (answers-cons above block blocks)
    ∙ onto-given (line_of (above ++ []) block) (answers_below (above ++ block ∷ []) blocks)
    ∙ ap (onto (line_of (above ++ []) block)) (threaded (above ++ block ∷ []) blocks)
    ∙ ap (λ front. onto (line_of front block) (lines_from (is_open (above ++ block ∷ [])) (line_below (above ++ block ∷ [])) blocks)) (append-nil above)
    ∙ ap (λ open_below. onto (line_of above block) (lines_from open_below (line_below (above ++ block ∷ [])) blocks)) (open-push above block ∙ opening-same (is_open above) block)
    ∙ ap (λ n. onto (line_of above block) (lines_from (opens (is_open above) sort) n blocks)) (below-push above block)

lines_are : (blocks : List (List (List ℕ))) → lines_or_fault (answers blocks) ≡ lines_from false 1 blocks
lines_are blocks = threaded [] blocks

pub small_text : (text : List ℕ) → length text ≤ text_limit → logical_lines text ≡ lines_from false 1 (blocks_of (physical_lines text))
small_text text small = cond-false (ltb text_limit (length text)) _ _ (le-ltb text_limit (length text) small) ∙ lines_are (blocks_of (physical_lines text))
