use Rattle.std.proofs.Common.{arith}
use Rattle.mk_missing.specs.Violations.{IsPresent}
use Rattle.mk_missing.proofs.Presents.{present_end, test_is, those_more, those_none}
use Rattle.mk_missing.proofs.present.present_nodes.Goals as goal

pub loop-n-init : goal.loop-n-init
loop-n-init c = those_none (IsPresent c.args.jobs.now) c.new-found.result.items c.new-found.ensures.items

pub loop-n-preserved : goal.loop-n-preserved
loop-n-preserved c =
    those_more (IsPresent c.args.jobs.now) c.loop-n.found.items c.keep.new.numbers.items c.loop-n.n c.is_present.result c.loop-n.invariant
    (test_is c.args.jobs.now c.loop-n.n c.is_present.result c.is_present.ensures) c.in_ok-keep.ensures.put c.in_ok-keep.ensures.same

pub returns-clause-exact : goal.returns-clause-exact
returns-clause-exact c = present_end c.args.jobs.now c.loop-n.found.items c.loop-n.n (omega (arith, c.loop-n-test.false, c.count-n-end.ensures.count)) c.loop-n.invariant
