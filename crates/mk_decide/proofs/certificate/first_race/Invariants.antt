use Rattle.std.proofs.Common.{ℕ, ◌≡◌, ◌<◌, get_or}
use Rattle.mk_jobs.specs.Jobs.{Before}
use Rattle.mk_decide.proofs.certificate.first_race.Given as goal

-- the pairs so far are in order; the answers are about these jobs
abbrev pub invariant-loop-i : goal.invariant-loop-i
invariant-loop-i g l = record {
  ordered : (k : ℕ) → k < l.i → (d : ℕ × ℕ) → Before l._jobs (get_or l.pairs k d).0 (get_or l.pairs k d).1;
  same : g.B.Before.jobs l.before ≡ l._jobs;
}
