use Rattle.std.proofs.Common.{ℕ, ◌≢◌, ◌<◌}
use Rattle.mk_index.specs.Uses.{Reaches}
use Rattle.mk_jobs.specs.Reaching.{uses_of}
use Rattle.mk_decide.specs.Pairs.{Holds, OnlyClashing}
use Rattle.mk_decide.proofs.pairs.clashing_pairs.Given as goal

-- only pairs that clash are there, and those of all nodes that reach one of the nodes so far
abbrev pub invariant-loop-b : goal.invariant-loop-b
invariant-loop-b l = record {
  clash : OnlyClashing l.jobs l.pairs.items;
  held : (a b : ℕ) → b < l.b → a ≢ b → Reaches (uses_of l.jobs) a b → Holds l.pairs.items a b;
}
