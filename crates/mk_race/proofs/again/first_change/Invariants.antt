use Rattle.std.proofs.Common.{ℕ, ◌<◌}
use Rattle.mk_race.specs.Again.{KeepsNode}
use Rattle.mk_race.proofs.again.first_change.Given as goal

-- the nodes so far are kept
abbrev pub invariant-loop-n : goal.invariant-loop-n
invariant-loop-n l = (k : ℕ) → k < l.n → KeepsNode l.jobs l.plan.nodes k
