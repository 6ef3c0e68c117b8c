use Rattle.mk_missing.specs.Hearing.{AreAlways}
use Rattle.mk_missing.proofs.always.always_marks.Given as goal

-- the nodes so far are marked
abbrev pub invariant-loop-n : goal.invariant-loop-n
invariant-loop-n l = AreAlways l.jobs l.marks.items l.n
