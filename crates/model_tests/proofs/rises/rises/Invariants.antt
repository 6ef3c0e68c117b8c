use Rattle.std.proofs.Common.{◌≤◌, ◌-◌}
use Rattle.mk_jobs.specs.Jobs.{node_count}
use Rattle.model_tests.proofs.rises.rises.Given as goal

-- the nodes are those of the same jobs
abbrev pub invariant-loop-a : goal.invariant-loop-a
invariant-loop-a g l = l.count ≤ node_count (g.B.Before.jobs l.before)

abbrev pub decreases-loop-a : goal.decreases-loop-a
decreases-loop-a g l = l.count - l.a
