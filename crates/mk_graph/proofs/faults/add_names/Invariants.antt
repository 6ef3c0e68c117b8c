use Rattle.std.proofs.Common.{◌≡◌, ◌++◌, map, take}
use Rattle.mk_jobs.specs.Numbered.{name_at}
use Rattle.mk_graph.proofs.faults.add_names.Given as goal

abbrev pub invariant-loop-number : goal.invariant-loop-number
invariant-loop-number l = l.all.items ≡ l.initial.all.items ++ map (name_at l.names) (take l.number-index l.numbers)
