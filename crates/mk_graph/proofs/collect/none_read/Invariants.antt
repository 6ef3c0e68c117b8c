use Rattle.std.proofs.Common.{◌≡◌, replicate, None}
use Rattle.mk_graph.proofs.collect.none_read.Given as goal

abbrev pub invariant-loop : goal.invariant-loop
invariant-loop l = l.entries.items ≡ replicate l.counter None
