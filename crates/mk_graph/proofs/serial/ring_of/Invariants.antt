use Rattle.std.proofs.Common.{◌≡◌, [], reverse, length}
use Rattle.mk_graph.specs.Steps.{ring_to}
use Rattle.mk_graph.proofs.serial.ring_of.Given as goal

-- what is collected, and then what the rest of the stack gives, is the ring
abbrev pub invariant-loop-step : goal.invariant-loop-step
invariant-loop-step l = ring_to l.back (reverse l.ring.items) (reverse l.stack.items) ≡ ring_to l.back [] (reverse l.fn.stack.items)

abbrev pub decreases-loop-step : goal.decreases-loop-step
decreases-loop-step l = length l.stack.items
