use Rattle.mk_graph.specs.Places.{IsBlank}
use Rattle.mk_graph.proofs.index.want_prerequisites.Given as goal

abbrev pub invariant-loop-place : goal.invariant-loop-place
invariant-loop-place l = IsBlank l.table
