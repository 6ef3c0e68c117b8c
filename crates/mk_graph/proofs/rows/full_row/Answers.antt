use Rattle.std.proofs.Common.{◌∙◌, subst, length, arith, List, ℕ}
use Rattle.mk_graph.specs.Rows.{row}
use Rattle.mk_graph.proofs.Rowing.{joined_within_size, with_source_below}
use Rattle.mk_graph.proofs.Steps.{In}
use Rattle.mk_graph.proofs.rows.full_row.Goals as goal

pub unmark-requires-clause-within : goal.unmark-requires-clause-within
unmark-requires-clause-within c = λ n h.
    let below = joined_within_size (row c.args.entries.now) (length c.args.seen.now) c.args.places.now c.in_ok-row.row.items c.requires.within c.in_ok-row.ensures.row in
    let w = with_source_below c.in_ok-row.row.items c.args.source (length c.args.seen.now) below c.requires.source n (subst (λ (xs : List ℕ). In xs n) (c.as_slice.ensures.value ∙ c.in_ok-add_source.ensures.row) h) in
    omega (arith, w, c.joined.auto.seen, c.add_source.auto.seen)
