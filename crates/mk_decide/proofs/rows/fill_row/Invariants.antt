use Rattle.std.proofs.Common.{take}
use Rattle.mk_decide.specs.Bits.{Gathers}
use Rattle.mk_decide.proofs.rows.fill_row.Given as goal

-- the nodes so far are gathered
abbrev pub invariant-loop-p : goal.invariant-loop-p
invariant-loop-p l = Gathers l.first l.done (take l.p-index l.nodes) l.row
