use Rattle.std.proofs.Common.{ℕ, ◌≡◌, ◌++◌, List, take}
use Rattle.mk_report.specs.ReportText.{AreOrderLines}
use Rattle.mk_report.proofs.safe.push_chains.Given as goal

-- the lines of the chains so far are there
abbrev pub invariant-loop-number : goal.invariant-loop-number
invariant-loop-number l = (lines : List ℕ) × AreOrderLines l.jobs (take l.number l.certificate) lines × (l.out.items ≡ l.initial.out.items ++ lines)
