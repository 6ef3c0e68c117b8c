use Rattle.std.proofs.Common.{◌≡◌, ◌++◌}
use Rattle.mk_foot.proofs.footprints.copied_by_target.Given as goal

-- the footprints so far, and then those that are left
abbrev pub invariant-loop-target : goal.invariant-loop-target
invariant-loop-target l = l.copy.entries ++ l.target-iterator ≡ l.footprints.entries
