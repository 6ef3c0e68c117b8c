use Rattle.std.proofs.Common.{◌≡◌, ◌++◌, codes, take}
use Rattle.std.specs.List.{flat_map}
use Rattle.mk_name.specs.Shown.{shown}
use Rattle.mk_program.proofs.fault_line.push_names.Given as goal

-- the first names are there, each behind a space
abbrev pub invariant-loop-name : goal.invariant-loop-name
invariant-loop-name l = l.out.items ≡ l.initial.out.items ++ flat_map (λ name. codes " " ++ shown name) (take l.name-index l.names)
