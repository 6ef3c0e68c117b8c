use Rattle.std.proofs.Common.{ℕ, ◌≡◌, ◌≢◌, ◌<◌, ◌-◌, ◌*◌, length}
use Rattle.mk_index.specs.Bits.{HasBit}
use Rattle.mk_jobs.specs.Jobs.{node_count}
use Rattle.mk_decide.specs.Swept.{HasClashes, HasPair, HoldsPair, width}
use Rattle.mk_decide.proofs.neighbours.add_clashes.Given as goal

-- only pairs that clash are there, and all that were; and those of the marked nodes so far
abbrev pub invariant-loop-a : goal.invariant-loop-a
invariant-loop-a l = record {
  clash : HasClashes l.jobs l.table;
  kept : (x y : ℕ) → HasPair l.fn.table x y → HasPair l.table x y;
  added : (a : ℕ) → a < l.from → a ≢ l.b → HasBit l.row a → HoldsPair l.table a l.b;
  long : length l.table ≡ node_count l.jobs * width;
}

abbrev pub decreases-loop-a : goal.decreases-loop-a
decreases-loop-a l = 20032 - l.from
