use Rattle.std.proofs.Common.{◌≡◌, map, take}
use Rattle.std.specs.List.{join_with_byte}
use Rattle.mk_text.specs.Lexical.{space}
use Rattle.mk_lines.proofs.blocks.join_pieces.Given as goal

-- the pieces so far are joined
abbrev pub invariant-loop-i : goal.invariant-loop-i
invariant-loop-i l = l.text.items ≡ join_with_byte space (map (λ piece. piece.now) (take l.i l.pieces))
