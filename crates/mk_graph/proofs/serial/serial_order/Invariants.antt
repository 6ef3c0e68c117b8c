use Rattle.std.proofs.Common.{◌+◌, reverse, length}
use Rattle.mk_graph.specs.Rows.{row}
use Rattle.mk_graph.proofs.Steps.{Walks}
use Rattle.mk_graph.proofs.Measure.{fresh_work}
use Rattle.mk_graph.proofs.serial.serial_order.Given as goal

abbrev pub invariant-walk : goal.invariant-walk
invariant-walk l = Walks (row l.graph) (length l.graph) l.goals l.marks.items l.order.items (reverse l.stack.items)

abbrev pub decreases-walk : goal.decreases-walk
decreases-walk l = fresh_work l.marks.items l.graph + length l.stack.items
