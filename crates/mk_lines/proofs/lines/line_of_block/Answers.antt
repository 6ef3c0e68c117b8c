use Rattle.std.proofs.Common.{ap}
use Rattle.mk_text.specs.Lexical.{physical_lines}
use Rattle.mk_lines.specs.LogicalLines.{line_at}
use Rattle.mk_lines.proofs.Sorting.{sorted_blank, sorted_command, sorted_text}
use Rattle.mk_lines.proofs.lines.line_of_block.Goals as goal

pub returns-then-are_blanks : goal.returns-then-are_blanks
returns-then-are_blanks c =
    let sorted = sorted_blank c.args.block.now c.args.below (cc) in
    ap (line_at c.args.number (physical_lines c.args.block.now)) sorted

pub returns-then-begins_with_tab : goal.returns-then-begins_with_tab
returns-then-begins_with_tab c =
    rw (sorted_command c.args.block.now c.args.below (cc) (cc)) c.command_line.ensures

pub returns : goal.returns
returns c = rw (sorted_text c.args.block.now c.args.below (cc) (cc)) c.text_line.ensures
