use Rattle.std.proofs.Common.{◌≡◌, find}
use Rattle.mk_graph.specs.Numbers.{in_set}
use Rattle.mk_graph.proofs.numbers.first_in.Given as goal

-- the first is among those that are left
abbrev pub invariant-loop-number : goal.invariant-loop-number
invariant-loop-number l = find (in_set l.many) l.number-iterator ≡ find (in_set l.many) l.few.keys
