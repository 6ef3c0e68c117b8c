use Rattle.std.proofs.Common.{◌-◌, arith, length, get_or}
use Rattle.mk_cert.proofs.Timing.{some_at}
use Rattle.mk_cert.proofs.times.by_node.Goals as goal

pub returns-then-node-count-clause-none : goal.returns-then-node-count-clause-none
returns-then-node-count-clause-none c =
    let times = c.args.times.now in
    let place = length times - 1 - c.loop-place.place in
    ((get_or times place (0, 0)).0, c.if-node-count.true, some_at times place (0, 0) (omega (arith, c.loop-place-test.true)))
