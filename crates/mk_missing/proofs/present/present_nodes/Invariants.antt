use Rattle.mk_missing.specs.Violations.{IsPresent}
use Rattle.mk_missing.proofs.Presents.{AreThose}
use Rattle.mk_missing.proofs.present.present_nodes.Given as goal

-- those so far are there, in order
abbrev pub invariant-loop-n : goal.invariant-loop-n
invariant-loop-n l = AreThose (IsPresent l.jobs) l.found.items l.n
