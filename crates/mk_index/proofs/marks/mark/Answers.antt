use Rattle.mk_index.proofs.Marking.{marks_none, marks_more, marks_all}
use Rattle.mk_index.proofs.marks.mark.Goals as goal

pub loop-n-init : goal.loop-n-init
loop-n-init c = marks_none c.args.row.now

pub loop-n-preserved : goal.loop-n-preserved
loop-n-preserved c = marks_more c.args.nodes.now c.loop-n.n-index c.args.row.now c.loop-n.row c.set_bit.new.row c.loop-n-test.true c.loop-n.invariant c.set_bit.ensures

pub returns : goal.returns
returns c = marks_all c.args.nodes.now c.loop-n.n-index c.args.row.now c.loop-n.row c.loop-n-test.false c.loop-n.invariant
