use Rattle.std.proofs.Common.{◌≡◌, ◌++◌, length}
use Rattle.std.specs.Vec.Iter.{into_iter_items}
use Rattle.mk_jobs.specs.Plan.{names_of}
use Rattle.mk_jobs.proofs.NamesTaken.{without_names}
use Rattle.mk_jobs.proofs.plan.take_names.Given as goal

-- with the nodes that are left, the names and the nodes without them are all
abbrev pub invariant-loop-node : goal.invariant-loop-node
invariant-loop-node l = record {
  names : l.names ++ names_of (into_iter_items l.node-iterator) ≡ names_of l.fn.nodes.items;
  nodes : l.numbered.items ++ without_names (length l.numbered.items) (into_iter_items l.node-iterator) ≡ without_names 0 l.fn.nodes.items;
}
