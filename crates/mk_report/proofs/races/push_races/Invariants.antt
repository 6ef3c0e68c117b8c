use Rattle.std.proofs.Common.{ℕ, ◌≡◌, ◌++◌, List, take}
use Rattle.mk_report.specs.RacesText.{AreRaceLines}
use Rattle.mk_report.proofs.races.push_races.Given as goal

-- the lines of the races so far are there
abbrev pub invariant-loop-race : goal.invariant-loop-race
invariant-loop-race l = (lines : List ℕ) × AreRaceLines l.jobs (take l.race-index l.races) lines × (l.out.items ≡ l.initial.out.items ++ lines)
