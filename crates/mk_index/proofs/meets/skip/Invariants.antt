use Rattle.std.proofs.Common.{◌≤◌, ◌-◌, length}
use Rattle.mk_index.specs.Meets.{AreBelow}
use Rattle.mk_index.proofs.meets.skip.Given as goal

abbrev pub invariant-loop-at : goal.invariant-loop-at
invariant-loop-at l = record {
  within : l.at ≤ length l.numbers;
  below : AreBelow l.numbers l.at l.q;
}

abbrev pub decreases-loop-at : goal.decreases-loop-at
decreases-loop-at l = length l.numbers - l.at
