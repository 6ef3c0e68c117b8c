use Rattle.std.proofs.Common.{◌≡◌, ◌++◌, length, take, zip}
use Rattle.std.specs.List.{flat_map}
use Rattle.mk_report.specs.MissingText.{late_pair}
use Rattle.mk_report.proofs.missing.push_all_late.Given as goal

-- the lines so far are there
abbrev pub invariant-loop-pair : goal.invariant-loop-pair
invariant-loop-pair l = l.out.items ≡ l.initial.out.items ++ flat_map (late_pair l.jobs l.found) (take (length l.yielded) (zip l.found.late.items l.found.late_by.items))
