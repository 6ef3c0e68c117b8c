use Rattle.std.proofs.Common.{arith}
use Rattle.mk_graph.proofs.Rowing.{in_at}
use Rattle.mk_graph.proofs.rows.unmark.Goals as goal

pub bounds-seen-number : goal.bounds-seen-number
bounds-seen-number c = let w = c.requires.within _ (in_at c.args.row.now c.loop-number.number-index c.loop-number-test.true) in omega (arith, w, c.loop-number.auto.seen)
