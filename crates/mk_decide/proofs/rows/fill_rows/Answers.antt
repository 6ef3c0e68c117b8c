use Rattle.std.proofs.Common.{ℕ, ◌≡◌, ◌<◌, ◌≤◌, List, All, length, take, drop, get_or, sym, subst, arith, length-take-le}
use Rattle.mk_jobs.specs.Jobs.{node_count}
use Rattle.mk_decide.specs.Bits.{AreRows, Gathers, row_words}
use Rattle.mk_decide.proofs.Edges.{all_smaller}
use Rattle.mk_decide.proofs.Filling.{row_ends, rows_more}
use Rattle.mk_decide.proofs.rows.fill_rows.Goals as goal

pub loop-b-init : goal.loop-b-init
loop-b-init c = λ x none. absurd (omega (arith, none))

pub slice_bounds-fill_row-end-in-loop-b : goal.slice_bounds-fill_row-end-in-loop-b
slice_bounds-fill_row-end-in-loop-b c =
    let rest = c.split_at_mut-done.result.1.now in
    let below : c.loop-b.b < node_count c.args.jobs.now = omega (arith, c.count-b-end.ensures.count) in
    let inside : row_words ≤ length rest = omega (arith, row_ends c.loop-b.b (node_count c.args.jobs.now) row_words below, c.split_at_mut-done.ensures.back_len, c.requires) in
    omega (arith, length-take-le row_words rest inside)

pub fill_row-requires-clause-wide : goal.fill_row-requires-clause-wide
fill_row-requires-clause-wide c =
    let rest = c.split_at_mut-done.result.1.now in
    let below : c.loop-b.b < node_count c.args.jobs.now = omega (arith, c.count-b-end.ensures.count) in
    length-take-le row_words rest (omega (arith, row_ends c.loop-b.b (node_count c.args.jobs.now) row_words below, c.split_at_mut-done.ensures.back_len, c.requires))

pub fill_row-requires-clause-there : goal.fill_row-requires-clause-there
fill_row-requires-clause-there c =
    let all = subst (All (λ p. p < c.loop-b.b)) (sym c.prerequisites.ensures) (all_smaller c.args.jobs.now c.loop-b.b c.count-b-end.ensures.valid) in
    λ k d at.
    let ends = row_ends (get_or c.prerequisites.result.now k d) c.loop-b.b row_words (all k d at) in
    omega (arith, ends, c.split_at_mut-done.ensures.front_len)

pub loop-b-preserved : goal.loop-b-preserved
loop-b-preserved c =
    let jobs = c.args.jobs.now in
    let first = c.args.first in
    let b = c.loop-b.b in
    let done = c.split_at_mut-done.result.0.now in
    let rest = c.split_at_mut-done.result.1.now in
    let row = c.fill_row.new.row in
    let below : b < node_count jobs = omega (arith, c.count-b-end.ensures.count) in
    let long : length (take row_words rest) ≡ row_words =
    length-take-le row_words rest (omega (arith, row_ends b (node_count jobs) row_words below, c.split_at_mut-done.ensures.back_len, c.requires)) in
    let kept : length row ≡ row_words = omega (arith, long, c.fill_row.auto.row) in
    let rows = subst (λ (ws : List ℕ). AreRows jobs first ws b) c.split_at_mut-done.ensures.value c.loop-b.invariant in
    let gathers = subst (λ (ns : List ℕ). Gathers first done ns row) c.prerequisites.ensures c.fill_row.ensures in
    rows_more jobs first b done rest row (drop row_words rest) c.count-b-end.ensures.valid c.split_at_mut-done.ensures.front_len kept rows gathers
