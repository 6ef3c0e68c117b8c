use Rattle.std.proofs.Common.{◌∙◌, subst, ◌<◌, length, arith, get_or, List, ℕ, rules}
use Rattle.mk_graph.specs.Rows.{row}
use Rattle.mk_graph.proofs.Rowing.{in_at, joined_next}
use Rattle.mk_graph.proofs.Measure.{row_read}
use Rattle.mk_graph.proofs.Steps.{In}
use Rattle.mk_graph.proofs.rows.joined.Goals as goal

pub bounds-entries-place : goal.bounds-entries-place
bounds-entries-place c = c.requires.places _ (in_at c.args.places.now c.loop-place.place-index c.loop-place-test.true)

pub offset_bounds-entries-place : goal.offset_bounds-entries-place
offset_bounds-entries-place c =
    let inside : get_or c.args.places.now c.loop-place.place-index 0 < length c.args.entries.now = c.requires.places _ (in_at c.args.places.now c.loop-place.place-index c.loop-place-test.true) in search rules

pub add_new-requires-clause-within : goal.add_new-requires-clause-within
add_new-requires-clause-within c = λ n h.
    let inside = c.requires.places _ (in_at c.args.places.now c.loop-place.place-index c.loop-place-test.true) in
    let is = c.as_slice.ensures.value ∙ row_read c.args.entries.now (get_or c.args.places.now c.loop-place.place-index 0) c.index-entries-place.result inside c.index-entries-place.is in
    let w = c.requires.within (get_or c.args.places.now c.loop-place.place-index 0) n (subst (λ (xs : List ℕ). In xs n) is h) in
    omega (arith, w, c.loop-place.auto.seen)

pub loop-place-preserved : goal.loop-place-preserved
loop-place-preserved c =
    let inside = c.requires.places _ (in_at c.args.places.now c.loop-place.place-index c.loop-place-test.true) in
    let is = c.as_slice.ensures.value ∙ row_read c.args.entries.now (get_or c.args.places.now c.loop-place.place-index 0) c.index-entries-place.result inside c.index-entries-place.is in
    record {
      row = joined_next (row c.args.entries.now) c.args.places.now c.loop-place.place-index c.loop-place.joined.items c.add_new.new.row.items c.as_slice.result.now c.loop-place-test.true c.loop-place.invariant.row is c.in_ok-add_new.ensures.row;
      marked = c.in_ok-add_new.ensures.marked;
    }
