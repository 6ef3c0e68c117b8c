use Rattle.mk_decide.specs.Walked.{AreMarkedBehind}
use Rattle.mk_decide.proofs.walk.mark_after.Given as goal

abbrev pub invariant-loop-x : goal.invariant-loop-x
invariant-loop-x l = AreMarkedBehind l.jobs l.a l.marks l.x
