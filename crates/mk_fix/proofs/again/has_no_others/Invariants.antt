use Rattle.std.proofs.Common.{ℕ, ◌<◌, ◌⊎◌, Contains, get_or}
use Rattle.mk_jobs.specs.Jobs.{IsPrerequisite, prerequisites_of}
use Rattle.mk_fix.proofs.again.has_no_others.Given as goal

-- the prerequisites so far were there, or are added
abbrev pub invariant-loop-p : goal.invariant-loop-p
invariant-loop-p l =
    (k : ℕ) → k < l.p-index
    → IsPrerequisite l.jobs (get_or (prerequisites_of l.new l.n) k 0) l.n ⊎ Contains l.edges (get_or (prerequisites_of l.new l.n) k 0, l.n)
