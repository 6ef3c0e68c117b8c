use Rattle.std.proofs.Common.{rules, get_or, ◌<◌, length}
use Rattle.mk_graph.proofs.Rowing.{in_at}
use Rattle.mk_graph.proofs.assembly.placed.Goals as goal

pub bounds-places-number : goal.bounds-places-number
bounds-places-number c = c.requires _ (in_at c.args.numbers.now c.loop-number.number-index c.loop-number-test.true)

pub offset_bounds-places-number : goal.offset_bounds-places-number
offset_bounds-places-number c =
    let inside : get_or c.args.numbers.now c.loop-number.number-index 0 < length c.args.places.now = c.requires _ (in_at c.args.numbers.now c.loop-number.number-index c.loop-number-test.true) in search rules
