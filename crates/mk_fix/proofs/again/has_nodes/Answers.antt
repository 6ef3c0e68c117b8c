use Rattle.std.proofs.Common.{arith, refl}
use Rattle.mk_fix.specs.Again.{HasNeeds, IsSameNode}
use Rattle.mk_fix.proofs.Remade.{all_more}
use Rattle.mk_fix.proofs.again.has_nodes.Goals as goal

pub loop-n-preserved : goal.loop-n-preserved
loop-n-preserved c =
    all_more (λ k. IsSameNode c.args.jobs.now c.args.new.now k × HasNeeds c.args.jobs.now c.args.edges.now c.args.new.now k) c.loop-n.n c.loop-n.invariant
    (c.is_same_node.ensures.0 c.if-not-is_same_node.false, c.has_needs.ensures.0 c.if-not-has_needs.false)

pub returns : goal.returns
returns c = (
  λ is n below. c.loop-n.invariant n (let end = c.loop-n-test.false in let count = c.count-n-end.ensures.count in omega (arith, below, end, count)),
  λ all. refl,
)
