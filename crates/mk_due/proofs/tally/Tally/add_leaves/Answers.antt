use Rattle.std.proofs.Common.{◌≡◌, ◌∙◌, ◌+◌, ◌∷◌, List, ap, drop, sym}
use Rattle.std.proofs.lemmas.List.{drop_more}
use Rattle.std.proofs.lemmas.Result.{err_from_is_err_and}
use Rattle.mk_name.specs.Names.{Name}
use Rattle.mk_foot.proofs.AttachNodes.{halts_along}
use Rattle.mk_due.specs.Items.{leaves_of, with_items}
use Rattle.mk_due.proofs.Leaves.{leaves_fault}
use Rattle.mk_due.proofs.tally.Tally.add_leaves.Goals as goal

pub returns-in_err-add_leaf-clause-fault : goal.returns-in_err-add_leaf-clause-fault
returns-in_err-add_leaf-clause-fault c =
    let a = c.args in
    let p = err_from_is_err_and c.from_residual.result c.from_residual.ensures.1 in
    let items = c.loop-name.self.items.items in
    let i = c.loop-name.name-index in
    let x = c.name-item.result in
    let later : List Name = drop (i + 1) a.needs.now in
    let left : drop i a.needs.now ≡ x ∷ later = drop_more a.needs.now i x c.loop-name-test.true ∙ ap (λ (y : Name). y ∷ later) (sym c.name-item.is) in
    rw (p.1, p.2) (halts_along c.in_err-add_leaf.field-0.0 _ _
    (λ fault e.
    sym c.loop-name.invariant.added
    ∙ ap (λ (xs : List Name). with_items a.place items (leaves_of a.listing.now a.place a.label.now items xs)) left
    ∙ leaves_fault a.listing.now a.place a.label.now items x later fault e)
    c.in_err-add_leaf.ensures.fault)
