use Rattle.std.proofs.Common.{◌∙◌, arith, get_or}
use Rattle.std.proofs.lemmas.List.{length-set}
use Rattle.mk_graph.proofs.Rowing.{in_at}
use Rattle.mk_graph.proofs.NodesOf.{placed_more}
use Rattle.mk_graph.proofs.assembly.places_in.Goals as goal

pub index_mut-requires : goal.index_mut-requires
index_mut-requires c =
    let w = c.requires.within _ (in_at c.args.order.now c.loop-place.place c.loop-place-test.true) in
    omega (arith, w, c.loop-place.places.ok.0, c.loop-place.invariant.long)

pub loop-place-preserved : goal.loop-place-preserved
loop-place-preserved c =
    let w = c.requires.within _ (in_at c.args.order.now c.loop-place.place c.loop-place-test.true) in
    record {
      long = length-set c.loop-place.places.items (get_or c.args.order.now c.loop-place.place 0) c.loop-place.place ∙ c.loop-place.invariant.long;
      placed = placed_more c.args.order.now c.loop-place.places.items c.args.count c.loop-place.place c.requires.distinct c.loop-place-test.true (omega (arith, w, c.loop-place.invariant.long)) c.loop-place.invariant.placed;
    }
