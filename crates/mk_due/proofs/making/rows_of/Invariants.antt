use Rattle.std.proofs.Common.{◌≡◌, ◌++◌, All, map}
use Rattle.std.specs.Vec.Iter.{into_iter_items}
use Rattle.mk_jobs.specs.Shape.{IsRising}
use Rattle.mk_due.specs.Items.{nodes_of}
use Rattle.mk_due.specs.JobsOf.{first_fault, reads_of, writes_of}
use Rattle.mk_due.proofs.making.rows_of.Given as goal

-- with the items that are left, the nodes and the rows are all, and the first fault is among these items
abbrev pub invariant-loop-item : goal.invariant-loop-item
invariant-loop-item l = record {
  first : first_fault l.root (map (λ name. name.now) l.names) (into_iter_items l.item-iterator) ≡ first_fault l.root (map (λ name. name.now) l.names) l.fn.items.items;
  nodes : l.nodes.items ++ nodes_of (into_iter_items l.item-iterator) ≡ nodes_of l.fn.items.items;
  reads : map (λ row. row.items) l.reads.items ++ map reads_of (into_iter_items l.item-iterator) ≡ map reads_of l.fn.items.items;
  writes : map (λ row. row.items) l.writes.items ++ map writes_of (into_iter_items l.item-iterator) ≡ map writes_of l.fn.items.items;
  reads_rise : All IsRising (map (λ row. row.items) l.reads.items);
  writes_rise : All IsRising (map (λ row. row.items) l.writes.items);
}
