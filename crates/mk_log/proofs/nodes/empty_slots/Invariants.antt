use Rattle.std.proofs.Common.{All}
use Rattle.mk_log.specs.Nodes.{Build, IsSo}
use Rattle.mk_log.proofs.nodes.empty_slots.Given as goal

-- no slot so far has a text
abbrev pub invariant-loop : goal.invariant-loop
invariant-loop l = (build : Build) → All (IsSo build) l.slots.items
