use Rattle.std.proofs.Common.{◌∙◌, ap, length, subst, sym, ◌<◌}
use Rattle.mk_jobs.specs.Plan.{Node, NumberedNode, Plan, with_names}
use Rattle.mk_jobs.proofs.NamesTaken.{needs_before, node_there}
use Rattle.mk_jobs.proofs.plan.Plan.prerequisites.Goals as goal

pub returns-clause-smaller : goal.returns-clause-smaller
returns-clause-smaller c = λ p h.
    let inside = subst (λ (a : Plan). c.args.n < length a.nodes) (sym c.self.view_is) c.requires in
    let there = node_there c.self.inside.names c.self.inside.nodes.items c.args.n c.index-node.result.now inside c.index-node.ensures in
    needs_before (with_names c.self.inside.names c.self.inside.nodes.items) c.args.n p c.as_slice.result.now c.self.invariant.1.rising inside
    (c.as_slice.ensures.value ∙ ap (λ (d : NumberedNode). d.prerequisites) c.node.view_is ∙ ap (λ (d : Node). d.prerequisites) there) h
