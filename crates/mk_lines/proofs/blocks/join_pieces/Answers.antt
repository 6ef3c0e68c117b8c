use Rattle.std.proofs.Common.{[], ◌∙◌, ap, arith, get_or}
use Rattle.std.proofs.lemmas.List.{get_or_default}
use Rattle.mk_lines.proofs.Piecing.{text_more}
use Rattle.mk_lines.proofs.blocks.join_pieces.Goals as goal
use Rattle.mk_lines.proofs.blocks.join_pieces.Goals.{then-i-gt0+in_ok-push, else-i-gt0}

pub loop-i-preserved : goal.loop-i-preserved
loop-i-preserved c =
    let pieces = c.args.pieces.now in
    let piece = get_or pieces c.loop-i.i (record { ref_ptr = (0, 0); now = [] }) in
    let is = get_or_default pieces c.loop-i.i (record { ref_ptr = (0, 0); now = [] }) piece c.loop-i-test.true in
    c.in_ok-extend_from_slice.ensures.items
    ∙ text_more (λ p. p.now) pieces c.loop-i.i piece c.loop-i-test.true is c.loop-i.text.items c.if-i-gt0.text.items c.loop-i.invariant
    (λ none. elim c.if-i-gt0.branch [ then-i-gt0+in_ok-push w ↦ absurd (omega (arith, none, w.if-i-gt0.true)) | else-i-gt0 w ↦ ap (λ v. v.items) w.text-is ])
    (λ some. elim c.if-i-gt0.branch [ then-i-gt0+in_ok-push w ↦ ap (λ v. v.items) w.text-is ∙ w.in_ok-push.ensures.items | else-i-gt0 w ↦ absurd (omega (arith, some, w.if-i-gt0.false)) ])
