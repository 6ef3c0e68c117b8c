use Rattle.std.proofs.Common.{◌≡◌, map, take}
use Rattle.mk_graph.specs.Makers.{maker_of}
use Rattle.mk_graph.proofs.makers.makers_of.Given as goal

abbrev pub invariant-loop-number : goal.invariant-loop-number
invariant-loop-number l = l.makers.items ≡ map (maker_of l.book l.listing) (take l.number l.names)
