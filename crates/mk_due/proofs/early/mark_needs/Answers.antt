use Rattle.std.proofs.Common.{◌≡◌, ◌∙◌, ◌||◌, false, List, ℕ, ap, arith, get_or, length, nat_eq, subst, sym}
use Rattle.mk_name.specs.Names.{has}
use Rattle.mk_due.specs.Awaited.{needs_at}
use Rattle.mk_due.specs.Good.{AreBelow}
use Rattle.mk_due.specs.Items.{DueItem, nodes_of}
use Rattle.mk_due.proofs.Awaiting.{marked_needs, needs_are, needs_below}
use Rattle.mk_due.proofs.early.mark_needs.Goals as goal

pub mark-requires : goal.mark-requires
mark-requires c =
    let items = c.args.items.now in
    let d = c.index-items-n.result in
    let same = c.prerequisites.ensures ∙ ap (λ (i : DueItem). i.node.prerequisites) c.index-items-n.is in
    subst (AreBelow (length c.args.marks.now)) (sym same)
    (needs_below items c.args.n (length c.args.marks.now) d c.requires.behind c.requires.node (omega (arith, c.requires.long, c.requires.node)))

pub returns-then-marks-n : goal.returns-then-marks-n
returns-then-marks-n c = λ p.
    let items = c.args.items.now in
    let marks = c.args.marks.now in
    let d = c.index-items-n.result in
    let same : c.prerequisites.result.now ≡ needs_at (nodes_of items) c.args.n =
    c.prerequisites.ensures ∙ ap (λ (i : DueItem). i.node.prerequisites) c.index-items-n.is ∙ sym (needs_are items c.args.n d c.requires.node) in
    c.mark.ensures p ∙ ap (λ (ps : List ℕ). get_or marks p false || has nat_eq ps p) same
    ∙ marked_needs (get_or marks c.args.n false) (has nat_eq (needs_at (nodes_of items) c.args.n) p) (get_or marks p false) c.if-marks-n.true
