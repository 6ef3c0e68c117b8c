use Rattle.std.proofs.Common.{◌≡◌, ◌∙◌, true, Some, cond, ap, sym}
use Rattle.std.specs.BTreeMap.{get}
use Rattle.std.specs.Cmp.Lexicographic.{slice_cmp}
use Rattle.std.specs.Ordering.{nat_cmp}
use Rattle.mk_jobs.specs.Jobs.{has_commands}
use Rattle.mk_due.specs.Items.{DueItem}
use Rattle.mk_due.proofs.Numbering.{noted}
use Rattle.mk_due.proofs.tally.note_task.Goals as goal

pub returns-in_ok-insert : goal.returns-in_ok-insert
returns-in_ok-insert c = λ label.
    let task : has_commands c.args.item.now.node.maker ≡ true = sym c.is_task.ensures ∙ c.if-is_task.true in
    let key : c.in_ok-copy.field-0 ≡ c.args.item.now.label = c.in_ok-copy.ensures ∙ ap (λ (i : DueItem). i.label) c.item.view_is in
    c.in_ok-insert.ensures.updates.0 label
    ∙ ap (λ b. cond b (Some c.args.number) (get (slice_cmp nat_cmp) c.args.tasks.now label)) (noted c.args.item.now c.in_ok-copy.field-0 label task key)
