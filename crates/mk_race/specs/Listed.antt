-- All races of a build.
use Rattle.std.specs.Prelude.{ℕ, ◌≡◌, List, Result, Ok, Err}
use Rattle.mk_name.specs.Reported.{Reported}
use Rattle.mk_jobs.specs.Jobs.{Jobs}
use Rattle.mk_decide.specs.Pairs.{HasManyPairs, too_many}
use Rattle.mk_fix.specs.AllRaces.{AreRaces, HasPairs}
use Rattle.mk_fix.specs.declared.races.Races.{Races}
use Rattle.mk_race.specs.Stages.{IsPrepared, Texts, ThenAny}
use Rattle.mk_race.specs.declared.listing.RaceList.{RaceList}

-- all races of jobs, with the number of pairs that clash; or more pairs clash than may
abbrev pub AreFound : Jobs → Result Races Reported → Type 0
AreFound jobs (Ok found) = AreRaces jobs found.races.items × HasPairs jobs found.pairs
AreFound jobs (Err reported) = (reported ≡ too_many) × HasManyPairs jobs

-- the jobs, and all their races
abbrev pub IsListedOf : Jobs → Result RaceList Reported → Type 0
IsListedOf jobs (Ok listed) = (listed.jobs ≡ jobs) × AreFound jobs (Ok listed.found)
IsListedOf jobs (Err reported) = AreFound jobs (Err reported)

-- the jobs of a build, and then all their races
abbrev pub IsListed : Texts → List ℕ → Result RaceList Reported → Type 0
IsListed texts footprints = ThenAny (IsPrepared texts footprints) (λ prepared. IsListedOf prepared.jobs)
