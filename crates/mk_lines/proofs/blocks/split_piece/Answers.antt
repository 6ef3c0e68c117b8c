use Rattle.std.proofs.Common.{◌==◌, [], ◌∷◌, ◌∙◌, ap, sym}
use Rattle.std.specs.List.{list_any}
use Rattle.std.specs.Option.{option_map_or}
use Rattle.std.proofs.lemmas.Bool.{cond-true, cond-false}
use Rattle.mk_text.specs.Lexical.{physical_lines, number_sign}
use Rattle.mk_lines.specs.LogicalLines.{without_backslashes, without_comment}
use Rattle.mk_lines.proofs.Piecing.{before-none, cut_first}
use Rattle.mk_lines.proofs.blocks.split_piece.Goals as goal

pub returns-in_default-true-clause-pieces : goal.returns-in_default-true-clause-pieces
returns-in_default-true-clause-pieces c =
    let line = c.split_line.result.0.now in
    let piece = c.unescaped-line.result.now in
    ap (λ lines. without_comment (without_backslashes lines)) c.split_line.ensures.lines
    ∙ cut_first line c.split_line.result.1 piece (cc)
    ∙ cond-true (list_any (λ b. b == number_sign) piece) _ _ (cc)
    ∙ ap (λ piece. piece ∷ []) (sym c.split_comment.ensures.before)

pub returns-in_default-false-clause-pieces : goal.returns-in_default-false-clause-pieces
returns-in_default-false-clause-pieces c =
    let line = c.split_line.result.0.now in
    let piece = c.unescaped-line.result.now in
    let later = option_map_or (λ rest. without_comment (without_backslashes (physical_lines rest.now))) c.split_line.result.1 [] in
    ap (λ lines. without_comment (without_backslashes lines)) c.split_line.ensures.lines
    ∙ cut_first line c.split_line.result.1 piece (cc)
    ∙ cond-false (list_any (λ b. b == number_sign) piece) _ _ (cc)
    ∙ ap (λ piece. piece ∷ later) (sym (c.split_comment.ensures.before ∙ before-none (λ b. b == number_sign) piece (cc)))
