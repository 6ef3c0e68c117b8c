use Rattle.std.proofs.Common.{◌≡◌, ◌∙◌, ◌∷◌, [], ap, arith, sym}
use Rattle.std.proofs.lemmas.List.{nil_from_length}
use Rattle.std.specs.Vec.Iter.{into_iter_items}
use Rattle.mk_name.specs.Names.{kept, same_name}
use Rattle.mk_jobs.specs.Plan.{Node}
use Rattle.mk_jobs.specs.contracts.plan.PlanNode.{the_view}
use Rattle.mk_jobs.proofs.NamesTaken.{all_have, all_taken, name_taken, no_names_left, node_taken, none_left, put_is}
use Rattle.mk_jobs.proofs.plan.take_names.Goals as goal

pub loop-node-preserved : goal.loop-node-preserved
loop-node-preserved c =
    let left = into_iter_items c.loop-node.node-iterator in
    let rest = into_iter_items c.next.new.self in
    let here = c.in-Some.ensures.steps.0 in
    record {
      names = name_taken c.loop-node.names c.insert.new.self c.in-Some.node left rest c.args.nodes.items c.requires here c.loop-node.invariant.names
          (c.in_ok-insert.ensures.kept ∙ ap (λ (m : Node). kept same_name c.loop-node.names (m.name ∷ [])) c.node.view_is);
      nodes = node_taken c.loop-node.numbered.items c.push.new.self.items c.in-Some.node left rest c.args.nodes.items here c.loop-node.invariant.nodes
          (put_is c.loop-node.numbered.items c.push.new.self.items c.len.result (the_view c.node.inside) c.in-Some.node c.in_ok-push.ensures.items (omega (arith, c.len.ensures, c.loop-node.numbered.ok.0)) c.node.view_is);
    }

pub returns-clause-nodes : goal.returns-clause-nodes
returns-clause-nodes c =
    let left = into_iter_items c.loop-node.node-iterator in
    let none : left ≡ [] = nil_from_length _ (sym c.loop-node.node-iterator.rest.ok.0 ∙ c.in-None.ensures.steps.0) in
    all_taken c.args.nodes.items c.loop-node.names c.loop-node.numbered.items (no_names_left c.loop-node.names left c.args.nodes.items none c.loop-node.invariant.names)
    (none_left c.loop-node.numbered.items left c.args.nodes.items none c.loop-node.invariant.nodes)

pub returns-clause-within : goal.returns-clause-within
returns-clause-within c =
    let left = into_iter_items c.loop-node.node-iterator in
    let none : left ≡ [] = nil_from_length _ (sym c.loop-node.node-iterator.rest.ok.0 ∙ c.in-None.ensures.steps.0) in
    all_have c.args.nodes.items c.loop-node.names c.loop-node.numbered.items (no_names_left c.loop-node.names left c.args.nodes.items none c.loop-node.invariant.names)
    (none_left c.loop-node.numbered.items left c.args.nodes.items none c.loop-node.invariant.nodes)
