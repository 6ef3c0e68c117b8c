use Rattle.std.proofs.Common.{List, All, ◌∙◌, ap, map, subst, sym}
use Rattle.std.proofs.lemmas.List.Elements.{All-push}
use Rattle.std.proofs.lemmas.Result.{err_from_is_err_and}
use Rattle.std.specs.Vec.Iter.{into_iter_items}
use Rattle.mk_name.specs.Names.{Name}
use Rattle.mk_jobs.specs.Shape.{IsRising}
use Rattle.mk_foot.proofs.AttachNodes.{fault_some, halts_along}
use Rattle.mk_due.specs.Items.{DueItem}
use Rattle.mk_due.specs.JobsOf.{first_fault, item_fault, reads_of, writes_of}
use Rattle.mk_due.proofs.Taken.{first_here, first_later, made_fault, pushed_left, row_put}
use Rattle.mk_due.proofs.making.rows_of.Goals as goal

pub returns-in_err-row-clause-fault : goal.returns-in_err-row-clause-fault
returns-in_err-row-clause-fault c =
    let p = err_from_is_err_and c.from_residual.result c.from_residual.ensures.1 in
    let names : List Name = map (λ name. name.now) c.args.names.now in
    let root = c.args.root.now in
    rw (p.1, p.2) (halts_along c.in_err-row.field-0.0 _ _
    (λ fault e. made_fault root names c.args.items.items fault
    (sym c.loop-item.invariant.first ∙ ap (first_fault root names) c.in-Some.ensures.steps.0
    ∙ first_here root names c.in-Some.item (into_iter_items c.next.new.self) fault (fault_some (item_fault root names c.in-Some.item) _ fault e)))
    c.in_err-row.ensures.fault)

pub loop-item-preserved : goal.loop-item-preserved
loop-item-preserved c =
    let names : List Name = map (λ name. name.now) c.args.names.now in
    let root = c.args.root.now in
    let left = into_iter_items c.loop-item.item-iterator in
    let rest = into_iter_items c.next.new.self in
    let here = c.in-Some.ensures.steps.0 in
    let done = c.in_ok-row.ensures in
    let reads = row_put c.loop-item.reads.items c.push-in-loop-item.new.self.items c.in_ok-row.row.reads c.in_ok-push-2.ensures.items in
    let writes = row_put c.loop-item.writes.items c.push-in-loop-item-2.new.self.items c.in_ok-row.row.writes c.in_ok-push-3.ensures.items in
    record {
      first = sym (ap (first_fault root names) here ∙ first_later root names c.in-Some.item rest done.none) ∙ c.loop-item.invariant.first;
      nodes = pushed_left (λ (i : DueItem). i.node) c.loop-item.nodes.items c.push.new.self.items left rest c.in-Some.item c.in_ok-row.row.node _ here done.node c.in_ok-push.ensures.items c.loop-item.invariant.nodes;
      reads = pushed_left reads_of _ _ left rest c.in-Some.item c.in_ok-row.row.reads.items _ here done.reads reads c.loop-item.invariant.reads;
      writes = pushed_left writes_of _ _ left rest c.in-Some.item c.in_ok-row.row.writes.items _ here done.writes writes c.loop-item.invariant.writes;
      reads_rise = subst (All IsRising) (sym reads) (All-push IsRising _ c.in_ok-row.row.reads.items c.loop-item.invariant.reads_rise done.rising.0);
      writes_rise = subst (All IsRising) (sym writes) (All-push IsRising _ c.in_ok-row.row.writes.items c.loop-item.invariant.writes_rise done.rising.1);
    }
