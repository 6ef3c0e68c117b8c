use Rattle.std.proofs.Common.{ℕ, ◌≢◌, ◌<◌, ◌-◌}
use Rattle.mk_index.specs.Bits.{HasBit}
use Rattle.mk_decide.specs.Pairs.{Holds, OnlyClashing}
use Rattle.mk_decide.proofs.pairs.add_pairs.Given as goal

-- only pairs that clash are there, and all that were; and those of the marked nodes so far
abbrev pub invariant-loop-a : goal.invariant-loop-a
invariant-loop-a l = record {
  clash : OnlyClashing l.jobs l.pairs.items;
  kept : (a c : ℕ) → Holds l.fn.pairs.items a c → Holds l.pairs.items a c;
  added : (a : ℕ) → a < l.from → a ≢ l.b → HasBit l.row a → Holds l.pairs.items a l.b;
}

abbrev pub decreases-loop-a : goal.decreases-loop-a
decreases-loop-a l = 20032 - l.from
