use Rattle.std.proofs.Common.{◌∙◌, ◌&&◌, false, ap, get_or, not, sym}
use Rattle.mk_jobs.specs.Jobs.{has_commands}
use Rattle.mk_due.specs.Items.{DueItem}
use Rattle.mk_due.proofs.Awaiting.{early_is}
use Rattle.mk_due.proofs.early.is_early.Goals as goal

pub returns-then-is_task : goal.returns-then-is_task
returns-then-is_task c =
    let n = c.in-Some.n in
    let made = ap (λ (i : DueItem). has_commands i.node.maker) (sym c.index-items-n.is) ∙ sym c.is_task.ensures ∙ c.if-is_task.true in
    ap (λ b. b && not (get_or c.args.marks.now n false)) (sym made)
    ∙ sym (early_is c.args.items.now c.args.names.now (λ n. get_or c.args.marks.now n false) c.args.name.now n c.index-items-n.result c.requires.names
    (sym c.number.ensures ∙ c.in-Some.is))

pub returns-else-is_task : goal.returns-else-is_task
returns-else-is_task c =
    let n = c.in-Some.n in
    let other = ap (λ (i : DueItem). has_commands i.node.maker) (sym c.index-items-n.is) ∙ sym c.is_task.ensures ∙ c.if-is_task.false in
    c.if-is_task.false ∙ ap (λ b. b && not (get_or c.args.marks.now n false)) (sym other)
    ∙ sym (early_is c.args.items.now c.args.names.now (λ n. get_or c.args.marks.now n false) c.args.name.now n c.index-items-n.result c.requires.names
    (sym c.number.ensures ∙ c.in-Some.is))
