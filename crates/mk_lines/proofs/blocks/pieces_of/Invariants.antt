use Rattle.std.proofs.Common.{◌≡◌, ◌+◌, ◌++◌, length, map}
use Rattle.std.specs.Option.{option_map_or}
use Rattle.mk_text.specs.Lexical.{physical_lines}
use Rattle.mk_lines.specs.LogicalLines.{pieces_of}
use Rattle.mk_lines.proofs.Piecing.{pieces_behind}
use Rattle.mk_lines.proofs.blocks.pieces_of.Given as goal

-- the pieces found and those of the rest are the block's
abbrev pub invariant-pieces : goal.invariant-pieces
invariant-pieces l = pieces_of (physical_lines l.fn.block) ≡ map (λ piece. piece.now) l.pieces.items ++ pieces_behind l.rest

abbrev pub decreases-pieces : goal.decreases-pieces
decreases-pieces l = option_map_or (λ rest. length rest.now + 1) l.rest 0
