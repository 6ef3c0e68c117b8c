use Rattle.std.proofs.Common.{◌≡◌, ◌++◌, take}
use Rattle.std.specs.List.{flat_map}
use Rattle.mk_report.specs.MissingText.{missing_pair}
use Rattle.mk_report.proofs.missing.push_all_missing.Given as goal

-- the lines so far are there
abbrev pub invariant-loop-pair : goal.invariant-loop-pair
invariant-loop-pair l = l.out.items ≡ l.initial.out.items ++ flat_map (missing_pair l.jobs l.listing l.found) (take l.pair-index l.found.missing.items)
