use Rattle.std.proofs.Common.{◌≡◌, ◌<◌, ◌∙◌, [], ◌∷◌, ◌++◌, List, Ok, arith, length, ap, subst, sym}
use Rattle.std.specs.Prelude.{IfErr, OnOk, Result}
use Rattle.mk_name.specs.Gives.{Halts}
use Rattle.mk_name.specs.Reported.{Reported}
use Rattle.mk_task.specs.Lines as tasks
use Rattle.mk_due.specs.Good.{AreBelow, IsNew}
use Rattle.mk_due.specs.Items.{DueItem, behind_needs, due_node, order_item, task_item, with_item, with_items}
use Rattle.mk_due.proofs.Leaves.{due_ordered, order_kept, some_there}
use Rattle.mk_due.proofs.tally.Tally.add_behind.Goals as goal

pub push-requires-4-clause-new : goal.push-requires-4-clause-new
push-requires-4-clause-new c =
    let items = c.args.self.now.items.items in
    let place = c.args.place in
    let listing = c.args.listing.now in
    let line = c.args.line in
    let given = c.push-3.new.self.items.items in
    let number : c.len.result ≡ length items = omega arith in
    let needs : c.push-2.new.self.items ≡ c.args.needs.items ++ length items ∷ [] = c.in_ok-push.ensures.items ∙ ap (λ n. c.args.needs.items ++ n ∷ []) number in
    let item : c.task_item-2.result ≡ task_item place line (due_node listing c.args.makes (c.args.needs.items ++ length items ∷ [])) =
    c.task_item-2.ensures ∙ ap (task_item place line) (c.due_node-node-2.ensures ∙ ap (due_node listing c.args.makes) needs) in
    let order : c.in_ok-order.order ≡ order_item place line.label c.args.others.items =
    c.in_ok-order.ensures ∙ ap (λ (l : tasks.TaskLine). order_item place l.label c.args.others.items) c.line.view_is in
    let ordered : with_item place items (order_item place line.label c.args.others.items) ≡ Ok given = ap (with_item place items) (sym order) ∙ c.in_ok-push-2.ensures.added in
    let kept = order_kept place line.label items c.args.needs.items c.args.others.items given c.requires.new c.requires.below ordered in
    subst (IsNew given) (sym (ap (λ (i : DueItem). i.label) item)) kept.new

pub push-requires-4-clause-below : goal.push-requires-4-clause-below
push-requires-4-clause-below c =
    let items = c.args.self.now.items.items in
    let place = c.args.place in
    let listing = c.args.listing.now in
    let line = c.args.line in
    let given = c.push-3.new.self.items.items in
    let number : c.len.result ≡ length items = omega arith in
    let needs : c.push-2.new.self.items ≡ c.args.needs.items ++ length items ∷ [] = c.in_ok-push.ensures.items ∙ ap (λ n. c.args.needs.items ++ n ∷ []) number in
    let item : c.task_item-2.result ≡ task_item place line (due_node listing c.args.makes (c.args.needs.items ++ length items ∷ [])) =
    c.task_item-2.ensures ∙ ap (task_item place line) (c.due_node-node-2.ensures ∙ ap (due_node listing c.args.makes) needs) in
    let order : c.in_ok-order.order ≡ order_item place line.label c.args.others.items =
    c.in_ok-order.ensures ∙ ap (λ (l : tasks.TaskLine). order_item place l.label c.args.others.items) c.line.view_is in
    let ordered : with_item place items (order_item place line.label c.args.others.items) ≡ Ok given = ap (with_item place items) (sym order) ∙ c.in_ok-push-2.ensures.added in
    let kept = order_kept place line.label items c.args.needs.items c.args.others.items given c.requires.new c.requires.below ordered in
    subst (AreBelow (length given)) (sym (ap (λ (i : DueItem). i.node.prerequisites) item)) kept.below

pub returns-clause-added : goal.returns-clause-added
returns-clause-added c =
    let items = c.args.self.now.items.items in
    let place = c.args.place in
    let listing = c.args.listing.now in
    let line = c.args.line in
    let given = c.push-3.new.self.items.items in
    let number : c.len.result ≡ length items = omega arith in
    let needs : c.push-2.new.self.items ≡ c.args.needs.items ++ length items ∷ [] = c.in_ok-push.ensures.items ∙ ap (λ n. c.args.needs.items ++ n ∷ []) number in
    let item : c.task_item-2.result ≡ task_item place line (due_node listing c.args.makes (c.args.needs.items ++ length items ∷ [])) =
    c.task_item-2.ensures ∙ ap (task_item place line) (c.due_node-node-2.ensures ∙ ap (due_node listing c.args.makes) needs) in
    let order : c.in_ok-order.order ≡ order_item place line.label c.args.others.items =
    c.in_ok-order.ensures ∙ ap (λ (l : tasks.TaskLine). order_item place l.label c.args.others.items) c.line.view_is in
    let ordered : with_item place items (order_item place line.label c.args.others.items) ≡ Ok given = ap (with_item place items) (sym order) ∙ c.in_ok-push-2.ensures.added in
    let some : 0 < length c.args.others.items = omega (arith, some_there _ (sym c.is_empty.ensures ∙ c.if-is_empty.false)) in
    let same : with_items place items (behind_needs listing place line c.args.makes (length items) c.args.needs.items c.args.others.items) ≡ with_item place given c.task_item-2.result =
    due_ordered listing place line c.args.makes items given c.args.needs.items c.args.others.items some ordered ∙ ap (with_item place given) (sym item) in
    subst (λ (r : Result (List DueItem) Reported). OnOk c.push-4.result (r ≡ Ok c.push-4.new.self.items.items)) (sym same) c.push-4.ensures.added

pub returns-clause-fault : goal.returns-clause-fault
returns-clause-fault c =
    let items = c.args.self.now.items.items in
    let place = c.args.place in
    let listing = c.args.listing.now in
    let line = c.args.line in
    let given = c.push-3.new.self.items.items in
    let number : c.len.result ≡ length items = omega arith in
    let needs : c.push-2.new.self.items ≡ c.args.needs.items ++ length items ∷ [] = c.in_ok-push.ensures.items ∙ ap (λ n. c.args.needs.items ++ n ∷ []) number in
    let item : c.task_item-2.result ≡ task_item place line (due_node listing c.args.makes (c.args.needs.items ++ length items ∷ [])) =
    c.task_item-2.ensures ∙ ap (task_item place line) (c.due_node-node-2.ensures ∙ ap (due_node listing c.args.makes) needs) in
    let order : c.in_ok-order.order ≡ order_item place line.label c.args.others.items =
    c.in_ok-order.ensures ∙ ap (λ (l : tasks.TaskLine). order_item place l.label c.args.others.items) c.line.view_is in
    let ordered : with_item place items (order_item place line.label c.args.others.items) ≡ Ok given = ap (with_item place items) (sym order) ∙ c.in_ok-push-2.ensures.added in
    let some : 0 < length c.args.others.items = omega (arith, some_there _ (sym c.is_empty.ensures ∙ c.if-is_empty.false)) in
    let same : with_items place items (behind_needs listing place line c.args.makes (length items) c.args.needs.items c.args.others.items) ≡ with_item place given c.task_item-2.result =
    due_ordered listing place line c.args.makes items given c.args.needs.items c.args.others.items some ordered ∙ ap (with_item place given) (sym item) in
    subst (λ (r : Result (List DueItem) Reported). IfErr c.push-4.result (λ halt. Halts halt r)) (sym same) c.push-4.ensures.fault
