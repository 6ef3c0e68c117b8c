use Rattle.mk_decide.specs.Bits.{AreRows}
use Rattle.mk_decide.proofs.rows.fill_rows.Given as goal

-- the rows so far are filled
abbrev pub invariant-loop-b : goal.invariant-loop-b
invariant-loop-b l = AreRows l.jobs l.first l.words l.b
