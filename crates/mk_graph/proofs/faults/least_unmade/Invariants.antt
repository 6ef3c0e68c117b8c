use Rattle.mk_graph.specs.Least.{IsLeastPassing}
use Rattle.mk_graph.specs.Makers.{is_unmade}
use Rattle.mk_graph.proofs.faults.least_unmade.Given as goal

abbrev pub invariant-loop-number : goal.invariant-loop-number
invariant-loop-number l = IsLeastPassing (is_unmade l.book l.listing) l.names l.number l.least
