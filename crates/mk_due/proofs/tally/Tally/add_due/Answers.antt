use Rattle.std.proofs.Common.{◌≡◌, ◌∙◌, List, Ok, Some, length, ap, ap₂, subst, sym}
use Rattle.std.specs.Prelude.{IfErr, OnOk, Result}
use Rattle.std.proofs.lemmas.Result.{err_from_is_err_and}
use Rattle.mk_name.specs.Gives.{Halts}
use Rattle.mk_name.specs.Reported.{Reported}
use Rattle.mk_foot.proofs.AttachNodes.{halts_along}
use Rattle.mk_task.specs.Lines as tasks
use Rattle.mk_due.specs.Good.{AreBelow}
use Rattle.mk_due.specs.Items.{DueItem, behind_needs, items_of_line, leaves_of, names_of, numbers_of, others, with_items}
use Rattle.mk_due.specs.Lines.{Due}
use Rattle.mk_due.proofs.Leaves.{due_fault, due_items}
use Rattle.mk_due.proofs.Numbering.{below_more, numbers_below, others_below}
use Rattle.mk_due.proofs.tally.Tally.add_due.Goals as goal

pub add_behind-requires-clause-below : goal.add_behind-requires-clause-below
add_behind-requires-clause-below c =
    let items = c.args.self.now.items.items in
    let given = c.add_leaves.new.self.items.items in
    let some = ap (λ (d : Due). d.needs) c.due.view_is in
    let needs : c.in_ok-needs.needs.keys ≡ numbers_of (names_of given) c.args.due.needs =
    c.in_ok-needs.ensures ∙ ap₂ numbers_of c.in_ok-add_leaves.ensures.tally.names_are (c.as_slice-2.ensures.value ∙ some) in
    let waits : c.in_ok-others.others.items ≡ others (numbers_of (names_of given) c.args.due.needs) c.args.waits.items = c.in_ok-others.ensures ∙ ap₂ others needs c.as_slice-3.ensures.value in
    subst (AreBelow (length given)) (sym (c.in_ok-needs-2.ensures ∙ needs)) (numbers_below given c.args.due.needs)

pub add_behind-requires-clause-others_below : goal.add_behind-requires-clause-others_below
add_behind-requires-clause-others_below c =
    let items = c.args.self.now.items.items in
    let given = c.add_leaves.new.self.items.items in
    let some = ap (λ (d : Due). d.needs) c.due.view_is in
    let needs : c.in_ok-needs.needs.keys ≡ numbers_of (names_of given) c.args.due.needs =
    c.in_ok-needs.ensures ∙ ap₂ numbers_of c.in_ok-add_leaves.ensures.tally.names_are (c.as_slice-2.ensures.value ∙ some) in
    let waits : c.in_ok-others.others.items ≡ others (numbers_of (names_of given) c.args.due.needs) c.args.waits.items = c.in_ok-others.ensures ∙ ap₂ others needs c.as_slice-3.ensures.value in
    subst (AreBelow (length given)) (sym waits)
    (others_below (length given) (numbers_of (names_of given) c.args.due.needs) c.args.waits.items
    (below_more (length items) (length given) c.args.waits.items c.in_ok-add_leaves.ensures.more c.requires.below))

pub returns-clause-added : goal.returns-clause-added
returns-clause-added c =
    let items = c.args.self.now.items.items in
    let given = c.add_leaves.new.self.items.items in
    let some = ap (λ (d : Due). d.needs) c.due.view_is in
    let needs : c.in_ok-needs.needs.keys ≡ numbers_of (names_of given) c.args.due.needs =
    c.in_ok-needs.ensures ∙ ap₂ numbers_of c.in_ok-add_leaves.ensures.tally.names_are (c.as_slice-2.ensures.value ∙ some) in
    let waits : c.in_ok-others.others.items ≡ others (numbers_of (names_of given) c.args.due.needs) c.args.waits.items = c.in_ok-others.ensures ∙ ap₂ others needs c.as_slice-3.ensures.value in
    let place = c.args.place in
    let listing = c.args.listing.now in
    let line = c.args.line in
    let leaves : with_items place items (leaves_of listing place line.label items c.args.due.needs) ≡ Ok given =
    ap₂ (λ (l : tasks.TaskLine) ns. with_items place items (leaves_of listing place l.label items ns)) (sym c.line.view_is) (sym (c.as_slice.ensures.value ∙ some)) ∙ c.in_ok-add_leaves.ensures.added in
    let same : with_items place items (items_of_line listing place items line (Some c.args.due) c.args.waits.items)
    ≡ with_items place given (behind_needs listing place line c.due.inside.makes (length given) c.in_ok-needs-2.needs.items c.in_ok-others.others.items) =
    due_items listing place line c.args.due items given c.args.waits.items leaves
    ∙ ap₂ (λ ns os. with_items place given (behind_needs listing place line c.args.due.makes (length given) ns os)) (sym (c.in_ok-needs-2.ensures ∙ needs)) (sym waits)
    ∙ ap (λ m. with_items place given (behind_needs listing place line m (length given) c.in_ok-needs-2.needs.items c.in_ok-others.others.items)) (sym (ap (λ (d : Due). d.makes) c.due.view_is)) in
    subst (λ (r : Result (List DueItem) Reported). OnOk c.add_behind.result (r ≡ Ok c.add_behind.new.self.items.items)) (sym same) c.add_behind.ensures.added

pub returns-clause-fault : goal.returns-clause-fault
returns-clause-fault c =
    let items = c.args.self.now.items.items in
    let given = c.add_leaves.new.self.items.items in
    let some = ap (λ (d : Due). d.needs) c.due.view_is in
    let needs : c.in_ok-needs.needs.keys ≡ numbers_of (names_of given) c.args.due.needs =
    c.in_ok-needs.ensures ∙ ap₂ numbers_of c.in_ok-add_leaves.ensures.tally.names_are (c.as_slice-2.ensures.value ∙ some) in
    let waits : c.in_ok-others.others.items ≡ others (numbers_of (names_of given) c.args.due.needs) c.args.waits.items = c.in_ok-others.ensures ∙ ap₂ others needs c.as_slice-3.ensures.value in
    let place = c.args.place in
    let listing = c.args.listing.now in
    let line = c.args.line in
    let leaves : with_items place items (leaves_of listing place line.label items c.args.due.needs) ≡ Ok given =
    ap₂ (λ (l : tasks.TaskLine) ns. with_items place items (leaves_of listing place l.label items ns)) (sym c.line.view_is) (sym (c.as_slice.ensures.value ∙ some)) ∙ c.in_ok-add_leaves.ensures.added in
    let same : with_items place items (items_of_line listing place items line (Some c.args.due) c.args.waits.items)
    ≡ with_items place given (behind_needs listing place line c.due.inside.makes (length given) c.in_ok-needs-2.needs.items c.in_ok-others.others.items) =
    due_items listing place line c.args.due items given c.args.waits.items leaves
    ∙ ap₂ (λ ns os. with_items place given (behind_needs listing place line c.args.due.makes (length given) ns os)) (sym (c.in_ok-needs-2.ensures ∙ needs)) (sym waits)
    ∙ ap (λ m. with_items place given (behind_needs listing place line m (length given) c.in_ok-needs-2.needs.items c.in_ok-others.others.items)) (sym (ap (λ (d : Due). d.makes) c.due.view_is)) in
    subst (λ (r : Result (List DueItem) Reported). IfErr c.add_behind.result (λ halt. Halts halt r)) (sym same) c.add_behind.ensures.fault

pub returns-in_err-add_leaves-clause-fault : goal.returns-in_err-add_leaves-clause-fault
returns-in_err-add_leaves-clause-fault c =
    let a = c.args in
    let p = err_from_is_err_and c.from_residual.result c.from_residual.ensures.1 in
    let items = a.self.now.items.items in
    let some = ap (λ (d : Due). d.needs) c.due.view_is in
    let same = ap₂ (λ (l : tasks.TaskLine) ns. with_items a.place items (leaves_of a.listing.now a.place l.label items ns)) (sym c.line.view_is) (sym (c.as_slice.ensures.value ∙ some)) in
    rw (p.1, p.2) (halts_along c.in_err-add_leaves.field-0.0 _ _
    (λ fault e. due_fault a.listing.now a.place a.line a.due items a.waits.items fault (same ∙ e)) c.in_err-add_leaves.ensures.fault)
