use Rattle.std.proofs.Common.{◌∙◌, sym, ap, subst, refl, length, List, ℕ, [], ◌∷◌, ◌++◌, Option}
use Rattle.std.specs.Prelude.{Err}
use Rattle.mk_name.specs.Names.{Name, same_name}
use Rattle.mk_name.specs.declared.fault.Halt.{Halt}
use Rattle.mk_name.specs.declared.fault.Kind.TheVariants as kinds
use Rattle.mk_name.specs.Gives.{HaltsAmong}
use Rattle.mk_jobs.specs.Numbered.{name_at}
use Rattle.mk_graph.specs.Answer.{Comes, no_rule, cycle, graph_fault}
use Rattle.mk_graph.specs.Graph.{IsCycle}
use Rattle.mk_graph.specs.Least.{upto, IsLeastPassing}
use Rattle.mk_graph.specs.Makers.{is_unmade, needs}
use Rattle.mk_graph.specs.Rows.{row, IsRing}
use Rattle.mk_graph.specs.Walk.{IsWalked}
use Rattle.mk_graph.specs.declared.serial.Walked.{Walked}
use Rattle.mk_graph.proofs.Answering.{graph_at, passing_none, in_range, ring_within, order_at, all_made, least_is}
use Rattle.mk_graph.proofs.Cycles.{cycle_is}
use Rattle.mk_graph.proofs.planning.order_of.Goals as goal

pub returns-in-Some-clause-halt : goal.returns-in-Some-clause-halt
returns-in-Some-clause-halt c =
    let names = c.args.graph.now.names in
    let n = c.in-Some.number in
    let p = subst (λ (o : Option ℕ). IsLeastPassing (is_unmade c.args.book.now c.args.listing.now) names (length names) o) c.in-Some.is c.least_unmade.ensures in
    let reported = c.in_ok-push.ensures.items ∙ ap (λ ns. ns ++ c.in_ok-copy.field-0 ∷ []) c.new-names.ensures.items ∙ ap (λ x. x ∷ []) (c.in_ok-copy.ensures ∙ c.name.ensures) in
    subst (λ (h : Halt). HaltsAmong h (Comes c.args.book.now c.args.listing.now c.args.goals.now)) (sym c.graph_fault.ensures)
    (subst (λ (ns : List Name). Comes c.args.book.now c.args.listing.now c.args.goals.now (Err (graph_fault kinds.NoRule ns))) (sym reported)
    (no_rule (name_at names n) c.requires.small (least_is c.args.book.now c.args.listing.now c.args.goals.now names c.args.graph.now.rows.items c.args.graph.now.goals.items c.requires.graph n p)))

pub serial_order-requires-clause-range : goal.serial_order-requires-clause-range
serial_order-requires-clause-range c =
    let g = graph_at c.args.book.now c.args.listing.now c.args.goals.now c.args.graph.now.names c.args.graph.now.rows.items c.as_slice.result.now c.args.graph.now.goals.items c.as_slice-2.result.now c.as_slice.ensures.value c.as_slice-2.ensures.value c.requires.graph in
    in_range c.args.book.now c.args.listing.now c.args.goals.now c.args.graph.now.names c.as_slice.result.now c.as_slice-2.result.now g

pub cycle_of-requires-clause-within : goal.cycle_of-requires-clause-within
cycle_of-requires-clause-within c =
    let g = graph_at c.args.book.now c.args.listing.now c.args.goals.now c.args.graph.now.names c.args.graph.now.rows.items c.as_slice.result.now c.args.graph.now.goals.items c.as_slice-2.result.now c.as_slice.ensures.value c.as_slice-2.ensures.value c.requires.graph in
    let r = subst (λ (w : Walked). IsWalked (row c.as_slice.result.now) c.as_slice-2.result.now w) c.in-Ring.is c.in_ok-ring.ensures in
    let q = subst (λ (ns : List ℕ). IsRing (row c.as_slice.result.now) c.as_slice-2.result.now ns) (sym c.as_slice-in-Ring.ensures.value) r in
    ring_within c.args.book.now c.args.listing.now c.args.goals.now c.args.graph.now.names c.as_slice.result.now c.as_slice-2.result.now g c.as_slice-in-Ring.result.now q

pub returns-in_ok-names-in-Ring-clause-halt : goal.returns-in_ok-names-in-Ring-clause-halt
returns-in_ok-names-in-Ring-clause-halt c =
    let g = graph_at c.args.book.now c.args.listing.now c.args.goals.now c.args.graph.now.names c.args.graph.now.rows.items c.as_slice.result.now c.args.graph.now.goals.items c.as_slice-2.result.now c.as_slice.ensures.value c.as_slice-2.ensures.value c.requires.graph in
    let r = subst (λ (w : Walked). IsWalked (row c.as_slice.result.now) c.as_slice-2.result.now w) c.in-Ring.is c.in_ok-ring.ensures in
    let q = subst (λ (ns : List ℕ). IsRing (row c.as_slice.result.now) c.as_slice-2.result.now ns) (sym c.as_slice-in-Ring.ensures.value) r in
    let made = all_made c.args.book.now c.args.listing.now c.args.goals.now c.args.graph.now.names c.args.graph.now.rows.items c.args.graph.now.goals.items c.requires.graph
    (passing_none (is_unmade c.args.book.now c.args.listing.now) c.args.graph.now.names (length c.args.graph.now.names) c.least_unmade.result c.in_default.not-Some c.least_unmade.ensures) in
    let found = c.in_ok-names-in-Ring.ensures in
    subst (λ (h : Halt). HaltsAmong h (Comes c.args.book.now c.args.listing.now c.args.goals.now)) (sym c.graph_fault-in-Ring.ensures)
    (cycle c.in_ok-names-in-Ring.names.items c.requires.small made
    (subst (λ (ns : List Name). IsCycle same_name upto (needs c.args.book.now c.args.listing.now) c.args.goals.now ns) (sym found.2)
    (cycle_is c.args.book.now c.args.listing.now c.args.goals.now c.args.graph.now.names c.as_slice.result.now c.as_slice-2.result.now c.as_slice-in-Ring.result.now found.0 g q found.1)))

pub returns-in-Order-clause-order : goal.returns-in-Order-clause-order
returns-in-Order-clause-order c =
    let o = subst (λ (w : Walked). IsWalked (row c.as_slice.result.now) c.as_slice-2.result.now w) c.in-Order.is c.in_ok-ring.ensures in
    order_at c.as_slice.result.now c.args.graph.now.rows.items c.as_slice-2.result.now c.args.graph.now.goals.items c.in-Order.order.items c.in-Order.order.items c.as_slice.ensures.value c.as_slice-2.ensures.value refl o

pub returns-in-Order-clause-made : goal.returns-in-Order-clause-made
returns-in-Order-clause-made c =
    all_made c.args.book.now c.args.listing.now c.args.goals.now c.args.graph.now.names c.args.graph.now.rows.items c.args.graph.now.goals.items c.requires.graph
    (passing_none (is_unmade c.args.book.now c.args.listing.now) c.args.graph.now.names (length c.args.graph.now.names) c.least_unmade.result c.in_default.not-Some c.least_unmade.ensures)
