use Rattle.std.proofs.Common.{◌≡◌, ◌∷◌, [], ◌∙◌, arith, length, map, sym, ap, subst}
use Rattle.std.specs.List.{join_with_byte}
use Rattle.mk_name.specs.Gives.{Gives}
use Rattle.mk_text.specs.Lexical.{physical_lines, space}
use Rattle.mk_lines.specs.LogicalLines.{line_at, pieces_of, kind_of_text}
use Rattle.mk_lines.proofs.Piecing.{pieces_behind, pieces_first}
use Rattle.mk_lines.proofs.Short.{joined_short}
use Rattle.mk_lines.proofs.Sorting.{pieces_text}
use Rattle.mk_lines.proofs.lines.text_line.Goals as goal

pub line_of_piece-requires : goal.line_of_piece-requires
line_of_piece-requires c =
    let block = c.args.block.now in
    let piece = c.split_piece.result.0.now in
    let one : pieces_of (physical_lines block) ≡ piece ∷ [] = pieces_first block piece c.split_piece.result.1 c.split_piece.ensures.pieces ∙ ap (λ rest. piece ∷ pieces_behind rest) c.in_default-None.is-1 in
    let long : length (join_with_byte space (pieces_of (physical_lines block))) ≡ length piece = ap (λ pieces. length (join_with_byte space pieces)) one in
    omega (arith, long, joined_short block)

pub line_of_pieces-requires : goal.line_of_pieces-requires
line_of_pieces-requires c =
    let long = ap (λ pieces. length (join_with_byte space pieces)) c.in_ok-pieces_of-in_default-Some.ensures in
    omega (arith, long, joined_short c.args.block.now)

pub returns-in_default-None : goal.returns-in_default-None
returns-in_default-None c =
    let block = c.args.block.now in
    let piece = c.split_piece.result.0.now in
    let one : pieces_of (physical_lines block) ≡ piece ∷ [] = pieces_first block piece c.split_piece.result.1 c.split_piece.ensures.pieces ∙ ap (λ rest. piece ∷ pieces_behind rest) c.in_default-None.is-1 in
    subst (λ text. Gives c.line_of_piece.result (line_at c.args.number (physical_lines block) (kind_of_text text))) (sym (ap (join_with_byte space) one))
    (c.line_of_piece.ensures (physical_lines block) (pieces_text block c.requires.text ∙ one))

pub returns-in_ok-pieces_of-in_default-Some : goal.returns-in_ok-pieces_of-in_default-Some
returns-in_ok-pieces_of-in_default-Some c =
    let block = c.args.block.now in
    let all = c.in_ok-pieces_of-in_default-Some.ensures in
    subst (λ pieces. Gives c.line_of_pieces.result (line_at c.args.number (physical_lines block) (kind_of_text (join_with_byte space pieces)))) all
    (c.line_of_pieces.ensures (physical_lines block) (pieces_text block c.requires.text ∙ sym all))
