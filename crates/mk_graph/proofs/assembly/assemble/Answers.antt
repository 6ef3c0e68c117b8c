use Rattle.std.proofs.Common.{◌∙◌, sym, subst, ap, List, ℕ}
use Rattle.mk_name.specs.Names.{Name, same_name, IsDistinct}
use Rattle.mk_jobs.specs.Plan.{names_of, AreFoundBy, with_names}
use Rattle.mk_graph.specs.Assembled.{IsNumbering}
use Rattle.mk_graph.proofs.NodeNames.{distinct_names, found_nodes, names_of_nodes, nodes_rising, assembled_is}
use Rattle.mk_graph.proofs.assembly.assemble.Goals as goal

pub numbered-requires-clause-distinct : goal.numbered-requires-clause-distinct
numbered-requires-clause-distinct c =
    let named = ap names_of c.in_ok-nodes.ensures.nodes ∙ names_of_nodes c.args.book.now c.args.listing.now c.args.graph.names c.args.graph.rows.items c.as_slice.result.now c.args.order.now in
    subst (λ (ns : List Name). IsDistinct same_name ns) (sym named) (distinct_names c.args.graph.names c.args.order.now c.count.ensures.distinct c.requires.within c.requires.distinct)

pub numbered-requires-clause-rising : goal.numbered-requires-clause-rising
numbered-requires-clause-rising c =
    nodes_rising c.args.book.now c.args.listing.now c.args.graph.names c.args.graph.rows.items c.args.order.now c.as_slice.result.now (with_names c.args.graph.names c.in_ok-nodes.nodes.items)
    (subst (λ (ps : List ℕ). IsNumbering c.args.order.now ps) (sym c.as_slice.ensures.value) c.in_ok-places.ensures.placed) c.requires.rising c.in_ok-nodes.ensures.nodes

pub numbered-requires-clause-found : goal.numbered-requires-clause-found
numbered-requires-clause-found c =
    subst (λ (ps : List ℕ). AreFoundBy (with_names c.args.graph.names c.in_ok-nodes.nodes.items) c.args.graph.names ps) c.as_slice.ensures.value
    (found_nodes c.args.book.now c.args.listing.now c.args.graph.names c.args.graph.rows.items c.args.order.now c.as_slice.result.now (with_names c.args.graph.names c.in_ok-nodes.nodes.items)
    c.count.ensures.distinct c.requires.within c.requires.all c.requires.distinct
    (subst (λ (ps : List ℕ). IsNumbering c.args.order.now ps) (sym c.as_slice.ensures.value) c.in_ok-places.ensures.placed) c.in_ok-nodes.ensures.nodes)

pub returns : goal.returns
returns c =
    assembled_is c.args.book.now c.args.listing.now c.args.graph.names c.args.graph.rows.items c.args.order.now c.as_slice.result.now (with_names c.args.graph.names c.in_ok-nodes.nodes.items) c.wait_uses.result c.numbered.result
    (subst (λ (ps : List ℕ). IsNumbering c.args.order.now ps) (sym c.as_slice.ensures.value) c.in_ok-places.ensures.placed) c.in_ok-nodes.ensures.nodes c.wait_uses.ensures c.numbered.ensures
