use Rattle.std.proofs.Common.{◌+◌, ◌-◌, ◌≤◌, length}
use Rattle.mk_lines.proofs.Cuts.{BlockFrom}
use Rattle.mk_lines.proofs.blocks.split_block.Given as goal

-- what was passed over belongs to the block; each line that was takes a newline
abbrev pub invariant-lines : goal.invariant-lines
invariant-lines l = record {
  inside : l.start ≤ length l.fn.text;
  counted : l.line_count ≤ l.start + 1;
  whole : BlockFrom l.fn.text l.start l.line_count;
}

abbrev pub decreases-lines : goal.decreases-lines
decreases-lines l = length l.fn.text - l.start
