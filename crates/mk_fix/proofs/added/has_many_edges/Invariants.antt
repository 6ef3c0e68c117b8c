use Rattle.std.proofs.Common.{◌≡◌, ◌≤◌, take}
use Rattle.mk_jobs.specs.Plan.{edge_count, edge_limit}
use Rattle.mk_fix.proofs.added.has_many_edges.Given as goal

-- the edges to the nodes so far were counted, and are not too many
abbrev pub invariant-loop-node : goal.invariant-loop-node
invariant-loop-node l = record {
  counted : l.count ≡ edge_count (take l.node-index l.nodes);
  few : l.count ≤ edge_limit;
}
