use Rattle.std.proofs.Common.{◌≡◌, ◌++◌, take}
use Rattle.std.specs.List.{flat_map}
use Rattle.mk_report.specs.FixText.{reported_name}
use Rattle.mk_report.proofs.not_fixed.push_names.Given as goal

-- the lines of the names so far are there
abbrev pub invariant-loop-name : goal.invariant-loop-name
invariant-loop-name l = l.out.items ≡ l.initial.out.items ++ flat_map reported_name (take l.name-index l.names)
