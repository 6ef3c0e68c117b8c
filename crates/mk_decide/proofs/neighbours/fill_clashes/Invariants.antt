use Rattle.std.proofs.Common.{◌≡◌, ◌*◌, length}
use Rattle.mk_jobs.specs.Jobs.{node_count}
use Rattle.mk_decide.specs.Swept.{HasClashes, width}
use Rattle.mk_decide.proofs.Sweeping.{AllHeldPairs}
use Rattle.mk_decide.proofs.neighbours.fill_clashes.Given as goal

-- only pairs that clash are there, and those of all nodes that reach one of the nodes so far
abbrev pub invariant-loop-b : goal.invariant-loop-b
invariant-loop-b l = record {
  clash : HasClashes l.jobs l.table;
  held : AllHeldPairs l.jobs l.table l.b;
  long : length l.table ≡ node_count l.jobs * width;
}
