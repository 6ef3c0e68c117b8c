use Rattle.std.proofs.Common.{◌≡◌, ◌<◌, ℕ, length, get_or}
use Rattle.mk_jobs.proofs.plan.numbers_below.Given as goal

abbrev pub invariant-loop-number : goal.invariant-loop-number
invariant-loop-number l = record {
  long : length l.numbers.items ≡ l.number;
  each : (n : ℕ) → n < l.number → get_or l.numbers.items n 0 ≡ n;
}
