use Rattle.std.proofs.Common.{◌≡◌, ◌++◌, take}
use Rattle.std.specs.List.{flat_map}
use Rattle.mk_name.specs.Shown as spec
use Rattle.mk_name.proofs.report.refused_report.Given as goal

-- the names so far have their lines
abbrev pub invariant-loop-name : goal.invariant-loop-name
invariant-loop-name l = l.out.items ≡ l.initial.out.items ++ flat_map spec.name_line (take l.name-index l.name-items)
