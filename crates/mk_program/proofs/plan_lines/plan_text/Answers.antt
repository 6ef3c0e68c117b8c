use Rattle.std.proofs.Common.{arith}
use Rattle.mk_program.proofs.PlanLines.{lines_step}
use Rattle.mk_program.proofs.plan_lines.plan_text.Goals as goal

pub loop-number-preserved : goal.loop-number-preserved
loop-number-preserved c = lines_step _ _ _ _ (omega (arith, c.loop-number-test.true, c.count-number-end.ensures)) c.loop-number.invariant c.in_ok-push_node.ensures
