use Rattle.std.proofs.Common.{◌≡◌, ◌++◌, take}
use Rattle.std.specs.List.{flat_map}
use Rattle.mk_report.specs.ReportText.{time_line}
use Rattle.mk_report.proofs.race.push_times.Given as goal

-- the lines so far are there
abbrev pub invariant-loop-timed : goal.invariant-loop-timed
invariant-loop-timed l = l.out.items ≡ l.initial.out.items ++ flat_map (time_line l.jobs) (take l.timed-index l.times)
