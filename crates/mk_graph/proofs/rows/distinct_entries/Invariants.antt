use Rattle.std.proofs.Common.{◌≡◌, ◌<◌, ℕ, [], length, get_or, None}
use Rattle.mk_graph.specs.Rows.{row}
use Rattle.mk_graph.specs.Seen.{IsSeen, firsts_of}
use Rattle.mk_graph.proofs.rows.distinct_entries.Given as goal

abbrev pub invariant-loop-entry : goal.invariant-loop-entry
invariant-loop-entry l = record {
  rows : (place : ℕ) → place < length l.rows.items → row l.rows.items place ≡ firsts_of (get_or l.entries place None);
  long : length l.rows.items ≡ l.entry-index;
  marked : IsSeen l.seen [];
}
