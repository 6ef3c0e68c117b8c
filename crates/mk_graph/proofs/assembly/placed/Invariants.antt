use Rattle.std.proofs.Common.{◌≡◌, map, take, get_or}
use Rattle.mk_graph.proofs.assembly.placed.Given as goal

abbrev pub invariant-loop-number : goal.invariant-loop-number
invariant-loop-number l = l.found.items ≡ map (λ n. get_or l.places n 0) (take l.number-index l.numbers)
