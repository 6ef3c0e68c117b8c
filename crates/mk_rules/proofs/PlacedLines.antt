-- The lines of a text with the text where they stand, parted at one of them.
use Rattle.std.proofs.Common.{◌≡◌, ℕ, zero, suc, ◌+◌, ◌-◌, ◌<◌, ◌≤◌, Bool, List, [], ◌∷◌, ◌++◌, refl, sym, ◌∙◌, ap, arith, length, take, drop, get_or}
use Rattle.std.proofs.lemmas.List.{drop_all, drop_more, length-drop, take-append-drop, take_all, take_more}
use Rattle.mk_name.specs.declared.fault.Source.{Source}
use Rattle.mk_lines.specs.LogicalLine.{LogicalLine}
use Rattle.mk_rules.specs.Placed.{Placed, begins_with_command, placed}

-- what stands behind a place, up to the end
pub rest_of : (lines : List LogicalLine) (n : ℕ) → take (length lines - n) (drop n lines) ≡ drop n lines
rest_of lines n =
    let short : length (drop n lines) ≤ length lines - n = omega (arith, length-drop n lines) in
    take_all _ _ short

module _ (source : Source) where
  length-placed : (lines : List LogicalLine) → length (placed source lines) ≡ length lines
  length-placed [] = refl
  length-placed (line ∷ lines) = ap suc (length-placed lines)

  -- a line, with the lines below it
  at : LogicalLine → List LogicalLine → Placed
  at line lines = record { source = source; line = line; command_below = begins_with_command lines }

  get_placed : (lines : List LogicalLine) (i : ℕ) (line : LogicalLine) (other : Placed) → i < length lines → line ≡ get_or lines i line → get_or (placed source lines) i other ≡ at line (drop (i + 1) lines)
  unfolding at
  get_placed [] i line other within is = absurd (omega arith)
  get_placed (l ∷ ls) zero line other within is = ap (λ x. at x ls) (sym is)
  get_placed (l ∷ ls) (suc i) line other within is =
      let inside : i < length ls = omega arith in
      let next : suc i + 1 ≡ suc (i + 1) = omega arith in
      get_placed ls i line other inside is ∙ sym (ap (λ n. at line (drop n (l ∷ ls))) next)

  module _ (lines : List LogicalLine) (i : ℕ) (line : LogicalLine) (within : i < length lines) (is : line ≡ get_or lines i line) where
    inside : i < length (placed source lines)
    inside = omega (arith, within, length-placed lines)

    pub front_placed : take (i + 1) (placed source lines) ≡ take i (placed source lines) ++ record { source = source; line = line; command_below = begins_with_command (drop (i + 1) lines) } ∷ []
    unfolding at
    front_placed = take_more (placed source lines) i (at line lines) inside
        ∙ ap (λ p. take i (placed source lines) ++ p ∷ []) (get_placed lines i line (at line lines) within is)

    pub placed_parted : placed source lines ≡ take i (placed source lines) ++ record { source = source; line = line; command_below = begins_with_command (drop (i + 1) lines) } ∷ drop (i + 1) (placed source lines)
    unfolding at
    placed_parted = sym (take-append-drop i (placed source lines))
        ∙ ap (λ l. take i (placed source lines) ++ l) (drop_more (placed source lines) i (at line lines) inside
        ∙ ap (λ p. p ∷ drop (i + 1) (placed source lines)) (get_placed lines i line (at line lines) within is))

  pub all_placed : (lines : List LogicalLine) (n : ℕ) → length lines ≤ n → take n (placed source lines) ≡ placed source lines
  all_placed lines n long = let short : length (placed source lines) ≤ n = omega (arith, length-placed lines) in take_all _ _ short

-- the lines from this place on
pub placed_from : (source : Source) (lines : List LogicalLine) (i : ℕ) (line : LogicalLine) (below : Bool) → i < length lines → line ≡ get_or lines i line → below ≡ begins_with_command (drop (i + 1) lines)
    → drop i (placed source lines) ≡ record { source = source; line = line; command_below = below } ∷ drop (i + 1) (placed source lines)
unfolding at
placed_from source lines i line below within is same =
    drop_more (placed source lines) i (at source line lines) (omega (arith, within, length-placed source lines))
    ∙ ap (λ p. p ∷ drop (i + 1) (placed source lines)) (get_placed source lines i line (at source line lines) within is)
    ∙ ap (λ (b : Bool). record { source = source; line = line; command_below = b } ∷ drop (i + 1) (placed source lines)) (sym same)

-- no line is left
pub none_from : (source : Source) (lines : List LogicalLine) (i : ℕ) → length lines ≤ i → drop i (placed source lines) ≡ []
none_from source lines i long = let short : length (placed source lines) ≤ i = omega (arith, length-placed source lines) in drop_all i (placed source lines) short
