use Rattle.std.proofs.Common.{◌≡◌, ◌++◌}
use Rattle.mk_task.proofs.needs.in_order.Given as goal

-- what is copied, and then what is left
abbrev pub invariant-loop-number : goal.invariant-loop-number
invariant-loop-number l = l.list.items ++ l.number-iterator ≡ l.numbers.keys
