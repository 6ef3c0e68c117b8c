use Rattle.std.proofs.Common.{ℕ, ◌≡◌, ◌≢◌, ◌<◌}
use Rattle.mk_index.specs.Uses.{Reaches}
use Rattle.mk_jobs.specs.Reaching.{uses_of}
use Rattle.mk_decide.specs.LeastRaces.{IsFound, IsSettled}
use Rattle.mk_decide.proofs.least.least_race.Given as goal

-- what was found is a race; whoever reaches one of the nodes so far is settled with it; the answers are about these jobs
abbrev pub invariant-loop-b : goal.invariant-loop-b
invariant-loop-b g l = record {
  race : IsFound l.jobs l.found;
  settled : (a b : ℕ) → b < l.b → a ≢ b → Reaches (uses_of l.jobs) a b → IsSettled l.jobs l.found a b;
  same : g.B.Before.jobs l.before ≡ l.jobs;
}
