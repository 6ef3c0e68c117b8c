use Rattle.std.proofs.Common.{◌≡◌, ◌+◌, ◌≤◌, [], false, length}
use Rattle.std.specs.Option.{option_map_or}
use Rattle.mk_text.specs.Lexical.{physical_lines}
use Rattle.mk_lines.specs.Blocks.{blocks_of}
use Rattle.mk_lines.proofs.Sequence.{joined, lines_from}
use Rattle.mk_lines.proofs.Stand.{Behind}
use Rattle.mk_lines.proofs.lines.lines.Given as goal

-- the lines found and those of the rest are those of the text; each physical line takes a byte or is the last;
-- what stands in the rest stands in the text behind the pieces found
abbrev pub invariant-blocks-2 : goal.invariant-blocks-2
invariant-blocks-2 l = record {
  whole : lines_from false 1 (blocks_of (physical_lines l.fn.text)) ≡ joined l.found.items (lines_from l.below l.number (option_map_or (λ rest. blocks_of (physical_lines rest.now)) l.rest []));
  bound : l.number + option_map_or (λ rest. length rest.now + 1) l.rest 0 ≤ length l.fn.text + 2;
  stands : Behind l.fn.text l.found.items l.rest;
}

abbrev pub decreases-blocks-2 : goal.decreases-blocks-2
decreases-blocks-2 l = option_map_or (λ rest. length rest.now + 1) l.rest 0
