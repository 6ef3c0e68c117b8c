use Rattle.std.proofs.Common.{ℕ, ◌≡◌, ◌<◌, length}
use Rattle.mk_jobs.specs.Needs.{IsNeedsOf}
use Rattle.mk_jobs.proofs.needs.needs_of.Given as goal

-- there is a row for each of the nodes so far
abbrev pub invariant-loop-n : goal.invariant-loop-n
invariant-loop-n l = record {
  count : length l.needs ≡ l.n;
  rows : (k : ℕ) → k < l.n → IsNeedsOf l.plan.nodes l.needs k;
}
