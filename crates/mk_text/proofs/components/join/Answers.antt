use Rattle.mk_text.proofs.Joins.{joined}
use Rattle.mk_text.proofs.components.join.Goals as goal

pub returns : goal.returns
returns c = joined c.args.parts.now c.in-Some.others.now c.in-Some.first.now c.args.bytes.now.items c.extend_from_slice.new.self.items c.loop-part.bytes.items c.loop-part.part-index c.in-Some.ensures.cases.0 c.in_ok-extend_from_slice.ensures.items c.loop-part-test.false c.loop-part.invariant
