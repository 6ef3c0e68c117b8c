use Rattle.std.proofs.Common.{ℕ, ◌≡◌, ◌<◌, ◌↔◌, ◌⊎◌, true, false, get_or, length}
use Rattle.mk_jobs.specs.Jobs.{Before}
use Rattle.mk_decide.proofs.traces.early_nodes.Given as goal

-- of each node so far it is known whether it is before one of the two; the answers are about these jobs
abbrev pub invariant-loop-n : goal.invariant-loop-n
invariant-loop-n g l = record {
  long : length l.early.items ≡ l.n;
  reports : (k : ℕ) → k < l.n → (get_or l.early.items k false ≡ true) ↔ (Before l.jobs k l.first ⊎ Before l.jobs k l.second);
  same : g.B.Before.jobs l.before ≡ l.jobs;
}
