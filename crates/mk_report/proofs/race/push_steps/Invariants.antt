use Rattle.std.proofs.Common.{◌≡◌, ◌++◌, take}
use Rattle.std.specs.List.{flat_map}
use Rattle.mk_report.specs.ReportText.{step_line}
use Rattle.mk_report.proofs.race.push_steps.Given as goal

-- the lines so far are there
abbrev pub invariant-loop-step : goal.invariant-loop-step
invariant-loop-step l = l.out.items ≡ l.initial.out.items ++ flat_map (step_line l.jobs) (take l.step-index l.steps)
