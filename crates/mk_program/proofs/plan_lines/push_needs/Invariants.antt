use Rattle.std.proofs.Common.{◌≡◌, ◌++◌, take}
use Rattle.std.specs.List.{flat_map}
use Rattle.mk_program.specs.PlanText.{behind_space, name_at}
use Rattle.mk_program.proofs.plan_lines.push_needs.Given as goal

-- the first names are there, each behind a space
abbrev pub invariant-loop-number : goal.invariant-loop-number
invariant-loop-number l = l.out.items ≡ l.initial.out.items ++ flat_map (λ number. behind_space (name_at l.plan.nodes number)) (take l.number-index l.needs)
