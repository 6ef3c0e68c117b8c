use Rattle.mk_jobs.specs.Rows.{with_rows}
use Rattle.model_tests.proofs.Formed.{AreRowsFit}
use Rattle.model_tests.proofs.rows.are_fit.Given as goal

-- the rows so far fit
abbrev pub invariant-loop-n : goal.invariant-loop-n
invariant-loop-n l = AreRowsFit (with_rows l.plan l.root l.reads l.writes) l.n
