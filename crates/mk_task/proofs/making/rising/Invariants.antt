use Rattle.std.proofs.Common.{◌≡◌, ◌++◌}
use Rattle.mk_task.proofs.making.rising.Given as goal

-- what is copied, and then what is left
abbrev pub invariant-loop-path : goal.invariant-loop-path
invariant-loop-path l = l.list.items ++ l.path-iterator ≡ l.paths.keys
