use Rattle.std.proofs.Common.{◌≡◌, ◌++◌}
use Rattle.mk_due.proofs.making.rising.Given as goal

-- what is copied, and then what is left
abbrev pub invariant-loop-name : goal.invariant-loop-name
invariant-loop-name l = l.list.items ++ l.name-iterator ≡ l.names.keys
