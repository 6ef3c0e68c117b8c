use Rattle.mk_graph.specs.Places.{IsBlank}
use Rattle.mk_graph.proofs.index.want_targets.Given as goal

abbrev pub invariant-loop-number : goal.invariant-loop-number
invariant-loop-number l = IsBlank l.table
