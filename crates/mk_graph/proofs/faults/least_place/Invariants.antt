use Rattle.mk_graph.specs.Least.{IsLeastPlace}
use Rattle.mk_graph.proofs.faults.least_place.Given as goal

abbrev pub invariant-loop-place : goal.invariant-loop-place
invariant-loop-place l = IsLeastPlace l.names l.ring l.place l.least
