use Rattle.std.proofs.Common.{ℕ, ◌≡◌, ◌≤◌, ◌-◌, length, take}
use Rattle.mk_path.proofs.covering.common.Given as goal

abbrev pub invariant-loop-low : goal.invariant-loop-low
invariant-loop-low l = record {
  order : l.low ≤ l.high;
  first : l.high ≤ length l.first;
  second : l.high ≤ length l.second;
  same : take l.low l.first ≡ take l.low l.second;
  bound : (k : ℕ) → k ≤ length l.first → k ≤ length l.second → take k l.first ≡ take k l.second → k ≤ l.high;
}

abbrev pub decreases-loop-low : goal.decreases-loop-low
decreases-loop-low l = l.high - l.low
