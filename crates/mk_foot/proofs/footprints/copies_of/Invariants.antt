use Rattle.std.proofs.Common.{◌≡◌, ◌++◌}
use Rattle.mk_foot.proofs.footprints.copies_of.Given as goal

-- the paths so far, and then those that are left
abbrev pub invariant-loop-path : goal.invariant-loop-path
invariant-loop-path l = l.list.items ++ l.path-iterator ≡ l.paths.keys
