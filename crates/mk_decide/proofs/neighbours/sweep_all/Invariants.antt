use Rattle.std.proofs.Common.{ℕ, ◌≡◌, ◌≤◌, ◌*◌, ◌↔◌, length}
use Rattle.std.specs.List.{Contains}
use Rattle.mk_jobs.specs.Jobs.{node_count}
use Rattle.mk_decide.specs.Neighbours.{IsNeighbour}
use Rattle.mk_decide.specs.Swept.{AreSwept, width}
use Rattle.mk_decide.proofs.neighbours.sweep_all.Given as goal

-- the rows of the last nodes are swept, and their neighbours are there
abbrev pub invariant-loop-left : goal.invariant-loop-left
invariant-loop-left l = record {
  few : l.left ≤ node_count l.jobs;
  long : length l.table ≡ node_count l.jobs * width;
  swept : AreSwept l.jobs l.table l.left;
  pairs : (a b : ℕ) → Contains l.pairs.items (a, b) ↔ ((l.left ≤ a) × IsNeighbour l.jobs a b);
}

abbrev pub decreases-loop-left : goal.decreases-loop-left
decreases-loop-left l = l.left
