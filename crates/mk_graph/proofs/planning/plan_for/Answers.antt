use Rattle.std.proofs.Common.{sym, subst, List, ℕ}
use Rattle.std.specs.Prelude.{Err}
use Rattle.mk_name.specs.Names.{Name}
use Rattle.mk_name.specs.declared.fault.Halt.{Halt}
use Rattle.mk_name.specs.declared.fault.Kind.TheVariants as kinds
use Rattle.mk_name.specs.Gives.{HaltsAmong}
use Rattle.mk_graph.specs.Answer.{Comes, too_large, planned, graph_fault, IsTooLarge}
use Rattle.mk_graph.specs.Rows.{row}
use Rattle.mk_graph.specs.Walk.{IsOrder}
use Rattle.mk_graph.proofs.Answering.{row_within, order_within, order_all, order_distinct, order_few, order_few_edges}
use Rattle.mk_graph.proofs.Graphs.{if_none_at}
use Rattle.mk_graph.proofs.NodesOf.{plan_is}
use Rattle.mk_graph.proofs.planning.plan_for.Goals as goal

pub returns-in_default : goal.returns-in_default
returns-in_default c =
    subst (λ (h : Halt). HaltsAmong h (Comes c.args.book.now c.args.listing.now c.args.goals.now)) (sym c.graph_fault.ensures)
    (subst (λ (ns : List Name). Comes c.args.book.now c.args.listing.now c.args.goals.now (Err (graph_fault kinds.GraphTooLarge ns))) (sym c.new.ensures.items)
    (too_large (if_none_at c.in_ok-graph.field-0 (IsTooLarge c.args.book.now c.args.listing.now c.args.goals.now) c.in_default.not-Some c.in_ok-graph.ensures.too_large)))

pub assemble-requires-clause-few : goal.assemble-requires-clause-few
assemble-requires-clause-few c =
    let g = rw c.in-Some.is at c.in_ok-graph.ensures.found in
    let o = subst (λ (ns : List ℕ). IsOrder (row c.in-Some.graph.rows.items) c.in-Some.graph.goals.items ns) (sym c.as_slice.ensures.value) c.in_ok-order.ensures.order in
    let small = rw c.in-Some.is at c.in_ok-graph.ensures.small in
    order_few c.args.book.now c.args.listing.now c.args.goals.now c.in-Some.graph.names c.in-Some.graph.rows.items c.in-Some.graph.goals.items g c.as_slice.result.now o small

pub assemble-requires-clause-few_edges : goal.assemble-requires-clause-few_edges
assemble-requires-clause-few_edges c =
    let g = rw c.in-Some.is at c.in_ok-graph.ensures.found in
    let o = subst (λ (ns : List ℕ). IsOrder (row c.in-Some.graph.rows.items) c.in-Some.graph.goals.items ns) (sym c.as_slice.ensures.value) c.in_ok-order.ensures.order in
    let small = rw c.in-Some.is at c.in_ok-graph.ensures.small in
    order_few_edges c.args.book.now c.args.listing.now c.args.goals.now c.in-Some.graph.names c.in-Some.graph.rows.items c.in-Some.graph.goals.items g c.as_slice.result.now o small

pub assemble-requires-clause-within : goal.assemble-requires-clause-within
assemble-requires-clause-within c =
    let g = rw c.in-Some.is at c.in_ok-graph.ensures.found in
    let o = subst (λ (ns : List ℕ). IsOrder (row c.in-Some.graph.rows.items) c.in-Some.graph.goals.items ns) (sym c.as_slice.ensures.value) c.in_ok-order.ensures.order in
    order_within c.args.book.now c.args.listing.now c.args.goals.now c.in-Some.graph.names c.in-Some.graph.rows.items c.in-Some.graph.goals.items g c.as_slice.result.now o

pub assemble-requires-clause-all : goal.assemble-requires-clause-all
assemble-requires-clause-all c =
    let g = rw c.in-Some.is at c.in_ok-graph.ensures.found in
    let o = subst (λ (ns : List ℕ). IsOrder (row c.in-Some.graph.rows.items) c.in-Some.graph.goals.items ns) (sym c.as_slice.ensures.value) c.in_ok-order.ensures.order in
    order_all c.args.book.now c.args.listing.now c.args.goals.now c.in-Some.graph.names c.in-Some.graph.rows.items c.in-Some.graph.goals.items g c.as_slice.result.now o

pub assemble-requires-clause-distinct : goal.assemble-requires-clause-distinct
assemble-requires-clause-distinct c =
    let g = rw c.in-Some.is at c.in_ok-graph.ensures.found in
    let o = subst (λ (ns : List ℕ). IsOrder (row c.in-Some.graph.rows.items) c.in-Some.graph.goals.items ns) (sym c.as_slice.ensures.value) c.in_ok-order.ensures.order in
    order_distinct c.args.book.now c.args.listing.now c.args.goals.now c.in-Some.graph.names c.in-Some.graph.rows.items c.in-Some.graph.goals.items g c.as_slice.result.now o

pub assemble-requires-clause-inside : goal.assemble-requires-clause-inside
assemble-requires-clause-inside c =
    let g = rw c.in-Some.is at c.in_ok-graph.ensures.found in
    row_within c.args.book.now c.args.listing.now c.args.goals.now c.in-Some.graph.names c.in-Some.graph.rows.items c.in-Some.graph.goals.items g

pub assemble-requires-clause-rising : goal.assemble-requires-clause-rising
assemble-requires-clause-rising c =
    let o = subst (λ (ns : List ℕ). IsOrder (row c.in-Some.graph.rows.items) c.in-Some.graph.goals.items ns) (sym c.as_slice.ensures.value) c.in_ok-order.ensures.order in
    o.rising

pub returns : goal.returns
returns c =
    let g = rw c.in-Some.is at c.in_ok-graph.ensures.found in
    let o = subst (λ (ns : List ℕ). IsOrder (row c.in-Some.graph.rows.items) c.in-Some.graph.goals.items ns) (sym c.as_slice.ensures.value) c.in_ok-order.ensures.order in
    let small = rw c.in-Some.is at c.in_ok-graph.ensures.small in
    let a = c.in_ok-assemble.ensures in
    planned c.in_ok-assemble.field-0 small c.in_ok-order.ensures.made
    (plan_is c.args.book.now c.args.listing.now c.args.goals.now c.in-Some.graph.names c.in-Some.graph.rows.items c.in-Some.graph.goals.items c.as_slice.result.now a.places g o a.placed c.in_ok-assemble.field-0 a.nodes a.waits)
