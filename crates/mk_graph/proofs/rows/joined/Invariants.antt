use Rattle.std.proofs.Common.{◌≡◌, take, nat_eq}
use Rattle.std.specs.List.{flat_map}
use Rattle.mk_name.specs.Names.{firsts}
use Rattle.mk_graph.specs.Rows.{row}
use Rattle.mk_graph.specs.Seen.{IsSeen}
use Rattle.mk_graph.proofs.rows.joined.Given as goal

abbrev pub invariant-loop-place : goal.invariant-loop-place
invariant-loop-place l = record {
  row : l.joined.items ≡ firsts nat_eq (flat_map (row l.entries) (take l.place-index l.places));
  marked : IsSeen l.seen l.joined.items;
}
