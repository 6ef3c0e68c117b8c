use Rattle.std.proofs.Common.{◌≡◌, ◌++◌, All, map}
use Rattle.std.specs.Vec.Iter.{into_iter_items}
use Rattle.mk_jobs.specs.Shape.{IsRising}
use Rattle.mk_foot.specs.Footprints.{in_order}
use Rattle.mk_task.specs.JobsOf.{node_of}
use Rattle.mk_task.specs.Tasks.{Task}
use Rattle.mk_task.proofs.making.rows_of.Given as goal

-- with the tasks that are left, the nodes and the rows are all
abbrev pub invariant-loop-task : goal.invariant-loop-task
invariant-loop-task l = record {
  nodes : l.nodes.items ++ map node_of (into_iter_items l.task-iterator) ≡ map node_of l.fn.tasks.items;
  reads : map (λ row. row.items) l.reads.items ++ map (λ (t : Task). in_order t.reads) (into_iter_items l.task-iterator) ≡ map (λ (t : Task). in_order t.reads) l.fn.tasks.items;
  writes : map (λ row. row.items) l.writes.items ++ map (λ (t : Task). in_order t.writes) (into_iter_items l.task-iterator) ≡ map (λ (t : Task). in_order t.writes) l.fn.tasks.items;
  reads_rise : All IsRising (map (λ row. row.items) l.reads.items);
  writes_rise : All IsRising (map (λ row. row.items) l.writes.items);
}
