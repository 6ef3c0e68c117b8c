use Rattle.std.proofs.Common.{◌≡◌, ◌<◌, ◌≤◌, ◌∙◌, ℕ, length, refl, subst, arith}
use Rattle.std.proofs.lemmas.List.{length-map}
use Rattle.mk_jobs.specs.Plan.{node_limit}
use Rattle.mk_jobs.specs.Rows.{with_rows}
use Rattle.model_tests.proofs.Formed.{formed, fit_whole, reads_row, row_more, writes_row}
use Rattle.model_tests.proofs.rows.are_fit.Goals as goal

pub loop-n-preserved : goal.loop-n-preserved
loop-n-preserved c =
    let plan = c.args.plan.now in
    let root = c.args.root.now in
    let reads = c.args.reads.now in
    let writes = c.args.writes.now in
    let below : c.loop-n.n < length reads = omega (arith, c.loop-n-test.true, c.count-n-end.ensures.count, c.count-count.ensures.count, c.if-reads-count.false) in
    let within : c.loop-n.n < length writes = omega (arith, c.loop-n-test.true, c.count-n-end.ensures.count, c.count-count.ensures.count, c.if-writes-count.false) in
    row_more (with_rows plan root reads writes) c.loop-n.n c.as_slice-read.result.now c.as_slice-written.result.now c.loop-n.invariant
    (c.as_slice-read.ensures.value ∙ reads_row plan root reads writes c.loop-n.n c.index-reads-n.result below c.index-reads-n.is)
    (c.as_slice-written.ensures.value ∙ writes_row plan root reads writes c.loop-n.n c.index-writes-n.result within c.index-writes-n.is)
    (c.if-not-fits.ensures refl)

pub returns : goal.returns
returns c = λ done.
    let plan = c.args.plan.now in
    let root = c.args.root.now in
    let reads = c.args.reads.now in
    let writes = c.args.writes.now in
    let known = c.count-count.ensures in
    let all_reads : length reads ≡ length plan.nodes = omega (arith, known.count, c.if-reads-count.false) in
    let all_writes : length writes ≡ length plan.nodes = omega (arith, known.count, c.if-writes-count.false) in
    formed (with_rows plan root reads writes) (subst (λ (k : ℕ). k ≤ node_limit) known.count known.few) known.few_edges known.distinct known.rising
    (length-map reads (λ row. row.items) ∙ all_reads) (length-map writes (λ row. row.items) ∙ all_writes)
    (fit_whole (with_rows plan root reads writes) c.loop-n.n (length plan.nodes) (omega (arith, c.loop-n-test.false, c.count-n-end.ensures.count)) c.loop-n.invariant)
