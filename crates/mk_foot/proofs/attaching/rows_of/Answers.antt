use Rattle.std.proofs.Common.{ℕ, ◌≡◌, ◌+◌, ◌<◌, ◌≤◌, ◌∷◌, [], ◌++◌, ◌∙◌, Ok, map, List, ap, subst, sym}
use Rattle.std.proofs.lemmas.Result.{err_from_is_err_and}
use Rattle.mk_path.specs.declared.path.Path.{Path}
use Rattle.mk_jobs.specs.Plan.{node_limit}
use Rattle.mk_jobs.specs.Rows.{with_rows}
use Rattle.mk_jobs.specs.Shape.{IsWellFormed}
use Rattle.mk_name.specs.Names.{Name}
use Rattle.mk_foot.specs.Attached.{attached_beside}
use Rattle.mk_foot.specs.Footprints.{Footprint}
use Rattle.mk_foot.proofs.AttachNodes.{RowsTo, fault_first, halts_along, left_more, row_pushed, rows_all, rows_more, rows_shape, same_answer}
use Rattle.mk_foot.proofs.attaching.rows_of.Goals as goal

pub returns-in_err-row-clause-fault : goal.returns-in_err-row-clause-fault
returns-in_err-row-clause-fault c =
    let p = err_from_is_err_and c.from_residual.result c.from_residual.ensures.1 in
    let owned : List Name = map (λ name. name.now) c.args.owned.now in
    let within = subst (λ k. c.loop-n.n < k) c.count-n-end.ensures.count c.loop-n-test.true in
    let first = fault_first c.args.plan.now owned c.args.footprints c.loop-n.n within _ _ c.loop-n.invariant.0 in
    let same = same_answer c.args.plan.now owned c.args.footprints c.loop-n.footprints c.loop-n.n within c.loop-n.invariant.1 in
    rw (p.1, p.2) (halts_along c.in_err-row.field-0.0 _ _ (λ fault e. first fault (sym same ∙ e)) c.in_err-row.ensures.answer)

pub loop-n-preserved : goal.loop-n-preserved
loop-n-preserved c =
    let owned : List Name = map (λ name. name.now) c.args.owned.now in
    let within = subst (λ k. c.loop-n.n < k) c.count-n-end.ensures.count c.loop-n-test.true in
    let same = same_answer c.args.plan.now owned c.args.footprints c.loop-n.footprints c.loop-n.n within c.loop-n.invariant.1 in
    let more = rows_more c.args.plan.now owned c.args.footprints c.loop-n.n within _ _ c.loop-n.invariant.0 c.in_ok-row.row
    (sym same ∙ c.in_ok-row.ensures.answer) c.in_ok-row.ensures.rising.0 c.in_ok-row.ensures.rising.1 c.in_ok-row.ensures.named.0 c.in_ok-row.ensures.named.1 in
    let R : ℕ → List (List Path) → List (List Path) → Type 0 = RowsTo c.args.plan.now owned c.args.footprints in (
      subst (λ (reads : List (List Path)). R (c.loop-n.n + 1) reads (map (λ row. row.items) c.push-in-loop-n.new.self.items))
          (row_pushed c.loop-n.reads.items c.push.new.self.items c.row.inside.reads c.in_ok-row.row.reads c.in_ok-push.ensures.items (ap (λ (f : Footprint). f.reads) c.row.view_is))
          (subst (λ (writes : List (List Path)). R (c.loop-n.n + 1) (map (λ row. row.items) c.loop-n.reads.items ++ c.in_ok-row.row.reads ∷ []) writes)
          (row_pushed c.loop-n.writes.items c.push-in-loop-n.new.self.items c.row.inside.writes c.in_ok-row.row.writes c.in_ok-push-2.ensures.items (ap (λ (f : Footprint). f.writes) c.row.view_is))
          more),
      left_more c.args.plan.now owned c.args.footprints c.loop-n.footprints c.loop-n.n within c.loop-n.invariant.1 c.row_of.new.footprints
          c.count-n-end.ensures.distinct c.row_of.ensures.others,
    )

pub returns-clause-rows : goal.returns-clause-rows
returns-clause-rows c =
    let owned : List Name = map (λ name. name.now) c.args.owned.now in
    let root : c.args.footprints.root ≡ c.into_root.result = sym (c.into_root.ensures ∙ c.loop-n.invariant.1.root) in
    subst (λ (r : List ℕ). attached_beside owned c.args.plan.now c.args.footprints ≡ Ok (with_rows c.args.plan.now r c.loop-n.reads.items c.loop-n.writes.items)) root
    (rows_all c.args.plan.now owned c.args.footprints c.loop-n.n _ _ (subst (λ k. k ≤ c.loop-n.n) c.count-n-end.ensures.count c.loop-n-test.false) c.loop-n.invariant.0)

pub returns-clause-shape : goal.returns-clause-shape
returns-clause-shape c =
    let owned : List Name = map (λ name. name.now) c.args.owned.now in
    let root : c.args.footprints.root ≡ c.into_root.result = sym (c.into_root.ensures ∙ c.loop-n.invariant.1.root) in
    subst (λ (r : List ℕ). IsWellFormed (with_rows c.args.plan.now r c.loop-n.reads.items c.loop-n.writes.items)) root
    (rows_shape c.args.plan.now owned c.args.footprints c.loop-n.n _ _ (subst (λ k. k ≤ c.loop-n.n) c.count-n-end.ensures.count c.loop-n-test.false)
    (subst (λ k. k ≤ node_limit) c.count-n-end.ensures.count c.count-n-end.ensures.few) c.count-n-end.ensures.few_edges c.count-n-end.ensures.distinct c.count-n-end.ensures.rising c.requires.whole c.loop-n.invariant.0)
