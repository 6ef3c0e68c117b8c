use Rattle.mk_decide.proofs.Tracing.{AreTimes}
use Rattle.mk_decide.proofs.traces.times_of.Given as goal

abbrev pub invariant-loop-n : goal.invariant-loop-n
invariant-loop-n l = AreTimes l.jobs l.times.items l.n l.count
