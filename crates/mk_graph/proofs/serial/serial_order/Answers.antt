use Rattle.std.proofs.Common.{◌∙◌, sym, ap, subst, ◌<◌, map, ◌∷◌, ◌++◌, reverse, length, List, get_or, arith, rules}
use Rattle.std.proofs.lemmas.List.{get_or-replicate, length-replicate, length-map, length-reverse, length-append, length_push}
use Rattle.mk_graph.specs.Rows.{row}
use Rattle.mk_graph.specs.declared.serial.Mark.TheVariants.{Fresh}
use Rattle.mk_graph.specs.declared.serial.Step.{Step}
use Rattle.mk_graph.specs.declared.serial.Step.TheVariants.{Enter, Leave}
use Rattle.mk_graph.proofs.Steps.{Walks, enters, begin, skip, enter, leave, finish, closes, order_has_no_cycle, enter_small, leave_small}
use Rattle.mk_graph.proofs.Measure.{popped, work_enter, work_leave, empty_from_none, mark_read, entered}
use Rattle.mk_graph.proofs.serial.serial_order.Goals as goal

pub walk-init : goal.walk-init
walk-init c =
    let fresh = c.in_ok-marks.ensures.items_if_clones_equal (λ y e. e) in
    begin (row c.args.graph.now) (length c.args.graph.now) c.args.goals.now c.in_ok-marks.marks.items c.new-order.result.items (reverse c.enter_all.new.stack.items)
    (ap length fresh ∙ length-replicate (length c.args.graph.now) Fresh)
    (λ n h. ap (λ xs. get_or xs n Fresh) fresh ∙ get_or-replicate (length c.args.graph.now) n Fresh Fresh (let l = ap length fresh ∙ length-replicate (length c.args.graph.now) Fresh in omega arith))
    c.new-order.ensures.items
    (c.in_ok-enter_all.ensures ∙ ap (λ xs. map Enter c.args.goals.now ++ reverse xs) c.new-stack.ensures.items)
    c.requires.goals

pub index_mut-requires : goal.index_mut-requires
index_mut-requires c =
    let w = popped _ _ _ _ _ _ _ _ _ c.in-Some.ensures.items c.in-Leave.is c.walk.invariant in
    let s = leave_small _ _ _ _ _ _ _ w in omega (arith, c.walk.marks.ok.0)

pub index-requires : goal.index-requires
index-requires c =
    let w = popped _ _ _ _ _ _ _ _ _ c.in-Some.ensures.items c.in-Enter.is c.walk.invariant in
    let s = enter_small _ _ _ _ _ _ _ w in omega (arith, c.walk.marks.ok.0)

pub index_mut-requires-in-Fresh : goal.index_mut-requires-in-Fresh
index_mut-requires-in-Fresh c =
    let w = popped _ _ _ _ _ _ _ _ _ c.in-Some.ensures.items c.in-Enter.is c.walk.invariant in
    let s = enter_small _ _ _ _ _ _ _ w in omega (arith, c.walk.marks.ok.0)

pub bounds-graph-node : goal.bounds-graph-node
bounds-graph-node c = (enter_small _ _ _ _ _ _ _ (popped _ _ _ _ _ _ _ _ _ c.in-Some.ensures.items c.in-Enter.is c.walk.invariant)).1

pub offset_bounds-graph-node : goal.offset_bounds-graph-node
offset_bounds-graph-node c =
    let s : c.in-Enter.node < length c.args.graph.now = (enter_small _ _ _ _ _ _ _ (popped _ _ _ _ _ _ _ _ _ c.in-Some.ensures.items c.in-Enter.is c.walk.invariant)).1 in search rules

pub walk-preserved-in_ok-push-in-Leave : goal.walk-preserved-in_ok-push-in-Leave
walk-preserved-in_ok-push-in-Leave c =
    let w = popped _ _ _ _ _ _ _ _ _ c.in-Some.ensures.items c.in-Leave.is c.walk.invariant in
    rw c.in_ok-push-in-Leave.ensures.items (leave _ _ _ _ _ _ _ w)

pub walk-smaller-in_ok-push-in-Leave : goal.walk-smaller-in_ok-push-in-Leave
walk-smaller-in_ok-push-in-Leave c =
    let less = work_leave c.walk.marks.items c.args.graph.now c.in-Leave.node in
    let e = c.in-Some.ensures.len in omega (arith, c.walk.stack.ok.0, c.pop.new.self.ok.0)

pub walk-preserved-in-Done : goal.walk-preserved-in-Done
walk-preserved-in-Done c =
    let w = popped _ _ _ _ _ _ _ _ _ c.in-Some.ensures.items c.in-Enter.is c.walk.invariant in
    skip _ _ _ _ _ _ _ w (mark_read c.walk.marks.items c.in-Enter.node _ _ (enter_small _ _ _ _ _ _ _ w).0 c.index.ensures c.in-Done.is)

pub returns-in-Open : goal.returns-in-Open
returns-in-Open c =
    let w = popped _ _ _ _ _ _ _ _ _ c.in-Some.ensures.items c.in-Enter.is c.walk.invariant in
    rw c.in_ok-ring_of-in-Open.ensures (closes _ _ _ _ _ _ _ w (mark_read c.walk.marks.items c.in-Enter.node _ _ (enter_small _ _ _ _ _ _ _ w).0 c.index.ensures c.in-Open.is))

pub walk-preserved : goal.walk-preserved
walk-preserved c =
    let w = popped _ _ _ _ _ _ _ _ _ c.in-Some.ensures.items c.in-Enter.is c.walk.invariant in
    enter _ _ _ _ _ _ _ (reverse c.enter_all-in-Fresh.new.stack.items) w (mark_read c.walk.marks.items c.in-Enter.node _ _ (enter_small _ _ _ _ _ _ _ w).0 c.index.ensures c.in-Fresh.is)
    (λ p h. c.requires.range c.in-Enter.node p h)
    (entered c.args.graph.now c.in-Enter.node c.index-graph-node.result c.as_slice.result.now c.pop.new.self.items c.push-in-Fresh.new.self.items (reverse c.enter_all-in-Fresh.new.stack.items) (enter_small _ _ _ _ _ _ _ w).1 c.index-graph-node.is c.as_slice.ensures.value c.in_ok-push-in-Fresh.ensures.items c.in_ok-enter_all-in-Fresh.ensures)

pub walk-smaller : goal.walk-smaller
walk-smaller c =
    let w = popped _ _ _ _ _ _ _ _ _ c.in-Some.ensures.items c.in-Enter.is c.walk.invariant in
    let small = enter_small _ _ _ _ _ _ _ w in
    let less = work_enter c.walk.marks.items c.args.graph.now c.in-Enter.node small.0 small.1 (mark_read c.walk.marks.items c.in-Enter.node _ _ small.0 c.index.ensures c.in-Fresh.is) in
    let long = ap length (entered c.args.graph.now c.in-Enter.node c.index-graph-node.result c.as_slice.result.now c.pop.new.self.items c.push-in-Fresh.new.self.items (reverse c.enter_all-in-Fresh.new.stack.items) small.1 c.index-graph-node.is c.as_slice.ensures.value c.in_ok-push-in-Fresh.ensures.items c.in_ok-enter_all-in-Fresh.ensures) in
    let was = ap length c.in-Some.ensures.items in
    omega (arith, less, long, was, length-reverse c.enter_all-in-Fresh.new.stack.items, length-reverse c.pop.new.self.items, length-append (enters (row c.args.graph.now c.in-Enter.node)) (Leave c.in-Enter.node ∷ reverse c.pop.new.self.items), length-map (row c.args.graph.now c.in-Enter.node) Enter, length_push c.pop.new.self.items c.in-Some.step)

pub returns : goal.returns
returns c =
    let w = subst (λ (fs : List Step). Walks (row c.args.graph.now) (length c.args.graph.now) c.args.goals.now c.walk.marks.items c.walk.order.items fs) (empty_from_none c.walk.stack.items (sym c.walk.stack.ok.0 ∙ c.in_default.ensures.cases.0)) c.walk.invariant in
    let s = finish _ _ _ _ _ w in
    record { serial = s; no_cycle = order_has_no_cycle _ _ _ s; rising = w.rising; nodes = w.done_nodes }
