use Rattle.std.proofs.Common.{ℕ, ◌<◌}
use Rattle.mk_fix.specs.Again.{HasNeeds, IsSameNode}
use Rattle.mk_fix.proofs.again.has_nodes.Given as goal

-- the nodes so far are there
abbrev pub invariant-loop-n : goal.invariant-loop-n
invariant-loop-n l = (k : ℕ) → k < l.n → IsSameNode l.jobs l.new k × HasNeeds l.jobs l.edges l.new k
