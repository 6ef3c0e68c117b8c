use Rattle.std.proofs.Common.{ℕ, ◌<◌, get_or}
use Rattle.mk_jobs.specs.Jobs.{IsPrerequisite, prerequisites_of}
use Rattle.mk_fix.proofs.again.keeps_needs.Given as goal

-- the prerequisites so far are kept
abbrev pub invariant-loop-p : goal.invariant-loop-p
invariant-loop-p l = (k : ℕ) → k < l.p-index → IsPrerequisite l.new (get_or (prerequisites_of l.jobs l.n) k 0) l.n
