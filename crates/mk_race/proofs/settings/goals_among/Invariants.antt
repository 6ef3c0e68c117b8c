use Rattle.std.proofs.Common.{◌≡◌, Ok, map, take}
use Rattle.std.specs.List.{enumerate_from}
use Rattle.mk_race.specs.Settings.{all_or_fault, goals_at}
use Rattle.mk_race.proofs.settings.goals_among.Given as goal

-- the names of the operands so far
abbrev pub invariant-loop-number : goal.invariant-loop-number
invariant-loop-number l = all_or_fault (map (goals_at l.root) (enumerate_from 1 (map (λ operand. operand.now) (take l.number l.operands)))) ≡ Ok l.goals.items
