use Rattle.std.proofs.Common.{◌<◌, ◌≤◌, subst}
use Rattle.mk_race.proofs.Noting.{numbers_all, numbers_more}
use Rattle.mk_race.proofs.unused.unused_in.Goals as goal

pub loop-n-preserved : goal.loop-n-preserved
loop-n-preserved c =
    numbers_more c.args.footprints.now c.args.plan.now.nodes c.loop-n.n c.loop-n.numbers.items _
    (subst (λ k. c.loop-n.n < k) c.count-n-end.ensures.count c.loop-n-test.true) c.loop-n.invariant c.in_ok-add_unused.ensures

pub returns : goal.returns
returns c =
    numbers_all c.args.footprints.now c.args.plan.now.nodes c.loop-n.n c.loop-n.numbers.items
    (subst (λ k. k ≤ c.loop-n.n) c.count-n-end.ensures.count c.loop-n-test.false) c.loop-n.invariant
