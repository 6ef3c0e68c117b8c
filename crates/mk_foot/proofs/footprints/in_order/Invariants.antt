use Rattle.std.proofs.Common.{◌≡◌, ◌++◌}
use Rattle.mk_foot.proofs.footprints.in_order.Given as goal

-- what is moved, and then what is left
abbrev pub invariant-loop-path : goal.invariant-loop-path
invariant-loop-path l = l.list.items ++ l.path-iterator ≡ l.fn.paths.keys
