use Rattle.std.proofs.Common.{ℕ, ◌<◌, get_or}
use Rattle.mk_jobs.specs.Jobs.{IsPrerequisite}
use Rattle.mk_fix.proofs.again.has_edges.Given as goal

-- the edges so far are there
abbrev pub invariant-loop-p : goal.invariant-loop-p
invariant-loop-p l = (k : ℕ) → k < l.p-index → IsPrerequisite l.new (get_or l.edges k (0, 0)).0 (get_or l.edges k (0, 0)).1
