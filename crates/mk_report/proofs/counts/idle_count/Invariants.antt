use Rattle.std.proofs.Common.{◌≡◌, ◌≤◌}
use Rattle.mk_jobs.specs.Jobs.{is_idle}
use Rattle.mk_report.specs.ReportText.{how_many}
use Rattle.mk_report.proofs.counts.idle_count.Given as goal

-- so many of the nodes so far are idle
abbrev pub invariant-loop-number : goal.invariant-loop-number
invariant-loop-number l = (l.idle ≡ how_many (is_idle l.jobs) l.number) × (l.idle ≤ l.number)
