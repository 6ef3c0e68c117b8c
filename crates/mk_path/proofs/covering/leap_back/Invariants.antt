use Rattle.std.proofs.Common.{◌<◌, ◌≤◌, length}
use Rattle.mk_path.proofs.covering.leap_back.Given as goal

abbrev pub invariant-loop-low : goal.invariant-loop-low
invariant-loop-low l = record {
  within : l.low ≤ length l.paths;
  some : 0 < l.leap;
}

abbrev pub decreases-loop-low : goal.decreases-loop-low
decreases-loop-low l = l.low
