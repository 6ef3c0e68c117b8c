use Rattle.std.proofs.Common.{◌≡◌, take, nat_eq}
use Rattle.mk_name.specs.Names.{kept}
use Rattle.mk_graph.specs.Seen.{IsSeen}
use Rattle.mk_graph.proofs.rows.add_new.Given as goal

abbrev pub invariant-loop-number : goal.invariant-loop-number
invariant-loop-number l = record {
  row : l.row.items ≡ kept nat_eq l.initial.row.items (take l.number-index l.numbers);
  marked : IsSeen l.seen l.row.items;
}
