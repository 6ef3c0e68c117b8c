use Rattle.std.proofs.Common.{◌≡◌, ◌++◌, drop}
use Rattle.mk_due.specs.Items.{others}
use Rattle.mk_due.proofs.numbers.others.Given as goal

-- those so far, and those among the numbers that are left, are all of them
abbrev pub invariant-loop-number : goal.invariant-loop-number
invariant-loop-number l = l.list.items ++ others l.needs.keys (drop l.number-index l.waits) ≡ others l.needs.keys l.waits
