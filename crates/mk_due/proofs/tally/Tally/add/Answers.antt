use Rattle.std.proofs.Common.{◌≡◌, ◌∙◌, [], false, List, Ok, Some, ap, ap₂, subst, sym}
use Rattle.std.specs.Prelude.{IfErr, OnOk, Option, Result, is_some}
use Rattle.mk_name.specs.Gives.{Halts}
use Rattle.mk_name.specs.Names.{Name}
use Rattle.mk_name.specs.Reported.{Reported}
use Rattle.mk_task.specs.Lines as tasks
use Rattle.mk_due.specs.Items.{DueItem, task_number, waits_among, with_line, with_task}
use Rattle.mk_due.specs.Lines.{Due, DueLine}
use Rattle.mk_due.proofs.LineByLine.{line_waits}
use Rattle.mk_due.proofs.Numbering.{waits_below}
use Rattle.mk_due.proofs.tally.Tally.add.Goals as goal

pub add_awaiting-requires-clause-below : goal.add_awaiting-requires-clause-below
add_awaiting-requires-clause-below c = waits_below c.args.place c.args.self.now.items.items _ c.in_ok-waits.waits.items c.in_ok-waits.ensures.waits

pub add_always-requires-clause-below : goal.add_always-requires-clause-below
add_always-requires-clause-below c = waits_below c.args.place c.args.self.now.items.items _ c.in_ok-waits.waits.items c.in_ok-waits.ensures.waits

pub returns-in-Some-clause-added : goal.returns-in-Some-clause-added
returns-in-Some-clause-added c =
    let a = c.args in
    let items = a.self.now.items.items in
    let waits = c.in_ok-waits.waits.items in
    let task_is : c.line.inside.task ≡ a.line.task = ap (λ (l : DueLine). l.task) c.line.view_is in
    let label_is = ap (λ (t : tasks.TaskLine). t.label) (c.task.view_is ∙ task_is) in
    let after_is = ap (λ (t : tasks.TaskLine). t.after) (c.task.view_is ∙ task_is) in
    let due_is : a.line.due ≡ Some c.in-Some.due = sym (ap (λ (l : DueLine). l.due) c.line.view_is) ∙ c.in-Some.is in
    let new : is_some (task_number items a.line.task.label) ≡ false =
    ap (λ (x : Name). is_some (task_number items x)) (sym label_is) ∙ ap is_some (sym c.task_number.ensures) ∙ sym c.is_some.ensures ∙ c.if-is_some.false in
    let among = ap (waits_among a.place items []) (sym (c.as_slice.ensures.value ∙ after_is)) ∙ c.in_ok-waits.ensures.waits in
    let same : with_line a.listing.now a.place items a.line ≡ with_task a.listing.now a.place items c.line.inside.task (Some c.in-Some.due) waits =
    line_waits a.listing.now a.place items a.line waits new among
    ∙ ap₂ (λ (t : tasks.TaskLine) (d : Option Due). with_task a.listing.now a.place items t d waits) (sym task_is) due_is in
    subst (λ (r : Result (List DueItem) Reported). OnOk c.add_awaiting.result (r ≡ Ok c.add_awaiting.new.self.items.items)) (sym same) c.add_awaiting.ensures.added

pub returns-in-Some-clause-fault : goal.returns-in-Some-clause-fault
returns-in-Some-clause-fault c =
    let a = c.args in
    let items = a.self.now.items.items in
    let waits = c.in_ok-waits.waits.items in
    let task_is : c.line.inside.task ≡ a.line.task = ap (λ (l : DueLine). l.task) c.line.view_is in
    let label_is = ap (λ (t : tasks.TaskLine). t.label) (c.task.view_is ∙ task_is) in
    let after_is = ap (λ (t : tasks.TaskLine). t.after) (c.task.view_is ∙ task_is) in
    let due_is : a.line.due ≡ Some c.in-Some.due = sym (ap (λ (l : DueLine). l.due) c.line.view_is) ∙ c.in-Some.is in
    let new : is_some (task_number items a.line.task.label) ≡ false =
    ap (λ (x : Name). is_some (task_number items x)) (sym label_is) ∙ ap is_some (sym c.task_number.ensures) ∙ sym c.is_some.ensures ∙ c.if-is_some.false in
    let among = ap (waits_among a.place items []) (sym (c.as_slice.ensures.value ∙ after_is)) ∙ c.in_ok-waits.ensures.waits in
    let same : with_line a.listing.now a.place items a.line ≡ with_task a.listing.now a.place items c.line.inside.task (Some c.in-Some.due) waits =
    line_waits a.listing.now a.place items a.line waits new among
    ∙ ap₂ (λ (t : tasks.TaskLine) (d : Option Due). with_task a.listing.now a.place items t d waits) (sym task_is) due_is in
    subst (λ (r : Result (List DueItem) Reported). IfErr c.add_awaiting.result (λ halt. Halts halt r)) (sym same) c.add_awaiting.ensures.fault
