use Rattle.std.proofs.Common.{◌≡◌, ◌++◌, take}
use Rattle.mk_report.specs.ReportText.{names_text}
use Rattle.mk_report.proofs.names.push_names.Given as goal

-- the names so far are there
abbrev pub invariant-loop-number : goal.invariant-loop-number
invariant-loop-number l = l.out.items ≡ l.initial.out.items ++ names_text l.jobs (take l.number-index l.numbers)
