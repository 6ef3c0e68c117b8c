use Rattle.std.proofs.Common.{◌≡◌, map, take, get_or}
use Rattle.mk_graph.specs.Assembled.{node_of}
use Rattle.mk_jobs.specs.Numbered.{name_at}
use Rattle.mk_jobs.specs.Plan.{HaveNames, with_names}
use Rattle.mk_graph.specs.Rows.{row}
use Rattle.mk_graph.proofs.assembly.nodes_of.Given as goal

abbrev pub invariant-loop-number : goal.invariant-loop-number
invariant-loop-number l = record {
  nodes : with_names l.graph.names l.nodes.items ≡ map (λ n. node_of l.book l.listing (name_at l.graph.names n) (map (λ p. get_or l.places p 0) (row l.graph.rows.items n))) (take l.number-index l.order);
  named : HaveNames l.graph.names l.nodes.items;
}
