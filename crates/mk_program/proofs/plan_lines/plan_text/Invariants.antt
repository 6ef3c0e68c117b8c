use Rattle.std.proofs.Common.{◌≡◌, take}
use Rattle.mk_program.specs.PlanText.{lines_of}
use Rattle.mk_program.proofs.plan_lines.plan_text.Given as goal

-- the lines of the first nodes are there
abbrev pub invariant-loop-number : goal.invariant-loop-number
invariant-loop-number l = l.out.items ≡ lines_of l.plan.nodes (take l.number l.plan.nodes)
