use Rattle.std.proofs.Common.{◌≡◌, ◌≤◌}
use Rattle.mk_jobs.specs.Jobs.{is_live}
use Rattle.mk_report.specs.ReportText.{how_many}
use Rattle.mk_report.proofs.counts.live_count.Given as goal

-- so many of the nodes so far are live
abbrev pub invariant-loop-number : goal.invariant-loop-number
invariant-loop-number l = (l.live ≡ how_many (is_live l.jobs) l.number) × (l.live ≤ l.number)
