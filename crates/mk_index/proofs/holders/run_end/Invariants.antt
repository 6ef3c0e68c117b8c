use Rattle.std.proofs.Common.{ℕ, ◌≤◌, ◌<◌, ◌-◌, length, get_or}
use Rattle.mk_index.proofs.holders.run_end.Given as goal

abbrev pub invariant-loop-end : goal.invariant-loop-end
invariant-loop-end l = record {
  order : l.start ≤ l.end;
  within : l.end ≤ length l.pairs;
  most : (k : ℕ) (d : ℕ × ℕ) → l.start ≤ k → k < l.end → (get_or l.pairs k d).0 ≤ l.t;
}

abbrev pub decreases-loop-end : goal.decreases-loop-end
decreases-loop-end l = length l.pairs - l.end
