use Rattle.std.proofs.Common.{◌≡◌, ◌≤◌, ◌<◌, ℕ, [], length, take}
use Rattle.mk_graph.specs.Graph.{count_edges}
use Rattle.mk_graph.specs.Makers.{needs}
use Rattle.mk_graph.specs.Rows.{row}
use Rattle.mk_graph.specs.Seen.{IsSeen, needs_of}
use Rattle.mk_graph.proofs.rows.rows_of.Given as goal

abbrev pub invariant-loop-number : goal.invariant-loop-number
invariant-loop-number l = record {
  long : length l.rows.items ≡ l.number;
  rows : (i : ℕ) → i < l.number → row l.rows.items i ≡ needs_of l.book.rules l.entries l.names l.sources i;
  edges : l.edges ≡ count_edges (needs l.book l.listing) (take l.number l.names);
  few : l.edges ≤ l.limit;
  marked : IsSeen l.seen [];
}
