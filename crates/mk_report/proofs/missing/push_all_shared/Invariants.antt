use Rattle.std.proofs.Common.{◌≡◌, ◌++◌, take}
use Rattle.std.specs.List.{flat_map}
use Rattle.mk_report.specs.MissingText.{shared_pair}
use Rattle.mk_report.proofs.missing.push_all_shared.Given as goal

-- the lines so far are there
abbrev pub invariant-loop-pair : goal.invariant-loop-pair
invariant-loop-pair l = l.out.items ≡ l.initial.out.items ++ flat_map (shared_pair l.jobs l.found) (take l.pair-index l.found.shared.items)
