use Rattle.std.proofs.Common.{Ok, Some, ◌∙◌, sym, ap}
use Rattle.std.proofs.lemmas.Bool.{eq-eqb}
use Rattle.std.proofs.lemmas.List.{take_rest}
use Rattle.mk_text.specs.Lexical.{physical_lines, tab}
use Rattle.mk_lines.specs.LogicalLines.{line_at}
use Rattle.mk_lines.proofs.Sorting.{pieces_command}
use Rattle.mk_lines.proofs.lines.command_line.Goals as goal

pub returns-in-Ok-Some : goal.returns-in-Ok-Some
returns-in-Ok-Some c =
    let block = c.args.block.now in
    let n = c.args.number in
    let kind = c.in-Ok-Some.kind in
    let sorted = sym c.kind_of_command.ensures.sort ∙ c.in-Ok-Some.is ∙ ap Ok c.in-Ok-Some.field-0-is in
    let pieces = pieces_command block (eq-eqb _ tab c.requires) in
    ap (line_at n (physical_lines block)) sorted
    ∙ ap (λ pieces. Ok (Some (record { kind = kind; first_line = n; pieces = pieces }))) pieces
    ∙ (let rest = take_rest block 1 in
    let kind_is = c.in-Ok-Some.kind-is in
    let made = c.of_piece.ensures in
    cc)
