-- The pieces that a line holds.
use Rattle.std.specs.Prelude.{◌≡◌, ℕ, List, [], ◌∷◌, length, map}
use Rattle.std.specs.List.{join_with_byte}
use Rattle.mk_lines.specs.declared.line.LineKind.{LineKind}
use Rattle.mk_lines.specs.declared.line.Pieces.{Pieces}
use Rattle.mk_lines.specs.declared.line.Pieces.TheVariants.{One, Several}
use Rattle.mk_lines.specs.LogicalLine.{LiesIn}

-- the one piece, or all of them
abbrev pub pieces_in : Pieces → List (List ℕ)
pieces_in (One piece) = piece.now ∷ []
pieces_in (Several joined) = map (λ piece. piece.now) joined.value.pieces.items

-- the text that they make up, as it is held
abbrev pub text_in : Pieces → List ℕ
text_in (One piece) = piece.now
text_in (Several joined) = joined.value.text.items

-- the text is that of the pieces, and the places of the kind lie in it
pub record IsParted (kind : LineKind) (pieces : Pieces) : Type 0 where
  pub joined : text_in pieces ≡ join_with_byte 32 (pieces_in pieces)
  pub within : LiesIn kind (length (text_in pieces))
