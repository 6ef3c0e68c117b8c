use Rattle.std.proofs.Common.{◌≡◌, ◌++◌, map, reverse, drop}
use Rattle.mk_graph.specs.declared.serial.Step.TheVariants.{Enter}
use Rattle.mk_graph.proofs.serial.enter_all.Given as goal

-- the nodes from the place on are on the stack
abbrev pub invariant-loop-place : goal.invariant-loop-place
invariant-loop-place l = reverse l.stack.items ≡ map Enter (drop l.place l.nodes) ++ reverse l.initial.stack.items
