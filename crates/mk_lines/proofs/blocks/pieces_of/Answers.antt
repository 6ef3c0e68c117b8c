use Rattle.std.proofs.Common.{◌≡◌, [], ◌∷◌, ◌∙◌, ◌++◌, ap, sym, map}
use Rattle.mk_lines.proofs.Piecing.{pieces_behind, pieces_first}
use Rattle.mk_lines.proofs.blocks.pieces_of.Goals as goal

pub pieces-init : goal.pieces-init
pieces-init c =
    let found : c.push.new.self.items ≡ c.split_piece.result.0 ∷ [] = c.in_ok-push.ensures.items ∙ ap (λ items. items ++ c.split_piece.result.0 ∷ []) c.new-pieces.ensures.items in
    pieces_first c.args.block.now c.split_piece.result.0.now c.split_piece.result.1 c.split_piece.ensures.pieces
    ∙ sym (ap (λ pieces. map (λ piece. piece.now) pieces ++ pieces_behind c.split_piece.result.1) found)
