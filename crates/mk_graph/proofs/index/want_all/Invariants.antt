use Rattle.mk_graph.specs.Places.{IsBlank}
use Rattle.mk_graph.proofs.index.want_all.Given as goal

abbrev pub invariant-loop-name : goal.invariant-loop-name
invariant-loop-name l = IsBlank l.table
