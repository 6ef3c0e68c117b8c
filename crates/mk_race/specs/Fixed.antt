-- The fix of a build: lines behind its makefile.
use Rattle.std.specs.Prelude.{ℕ, ◌≡◌, ◌⊎◌, ◌++◌, List, Option, Some, None, Result, Ok, Err, false}
use Rattle.std.specs.List.{list_all}
use Rattle.mk_name.specs.Reported.{Reported}
use Rattle.mk_jobs.specs.Jobs.{Jobs, IsRaceFree}
use Rattle.mk_sched.specs.Schedules.{IsDeterminateFromOneRun}
use Rattle.mk_decide.specs.Decisions.{AreSafe}
use Rattle.mk_decide.specs.Pairs.{HasFewPairs, HasManyPairs, too_many}
use Rattle.mk_decide.specs.Races.{HasLeastRace}
use Rattle.mk_fix.specs.Again.{HaveAll}
use Rattle.mk_fix.specs.Fixes.{IsFix}
use Rattle.mk_report.specs.FixText.{HasNoRoom, IsFixText, has_words}
use Rattle.mk_race.specs.Judged.{NoScheduleShows}
use Rattle.mk_race.specs.Stages.{IsPrepared, Texts, ThenAny}
use Rattle.mk_race.specs.declared.fixing.Fixing.{Fixing}
use Rattle.mk_race.specs.declared.fixing.Fixing.TheVariants.{Fixed, NotFixed}
use Rattle.mk_race.specs.declared.fixing.Tried.{Tried}
use Rattle.mk_race.specs.declared.fixing.Tried.TheVariants.{Safe, Unsafe}
use Rattle.mk_race.specs.declared.preparing.Prepared.{Prepared}

-- the texts of a build, with these lines behind the makefile
abbrev pub with_lines : Texts → List ℕ → Texts
with_lines texts lines = record texts { makefile = texts.makefile ++ lines }

-- lines fix a build of these jobs: they say the fix of the jobs; and with them behind the makefile the build has new jobs, which are
-- safe, and have all that there was, and the fix
pub record IsFixedBy (texts : Texts) (footprints : List ℕ) (jobs : Jobs) (lines : List ℕ) (new : Jobs) : Type 0 where
  pub edges : List (ℕ × ℕ)
  pub fix : IsFix jobs edges
  pub says : IsFixText texts.makefile jobs edges lines
  pub prepared : Prepared
  pub build : IsPrepared (with_lines texts lines) footprints (Ok prepared)
  pub jobs_are : prepared.jobs ≡ new
  pub safe : AreSafe new
  pub all : HaveAll jobs edges new

-- why new jobs do not fix jobs: too many pairs clash; or there is a race; or they have not all
abbrev pub IsNoFix : Jobs → List (ℕ × ℕ) → Jobs → Option Reported → Type 0
IsNoFix jobs edges new (Some reported) = (reported ≡ too_many) × HasManyPairs new
IsNoFix jobs edges new None = HasFewPairs new × (HasLeastRace new ⊎ (IsRaceFree new × (HaveAll jobs edges new → ⊥)))

-- why no lines fix a build: a name that they need is no word; no text has room for them; or the texts with them are refused, or their
-- jobs do not fix it
pub data IsUnfixed (texts : Texts) (footprints : List ℕ) (jobs : Jobs) (edges : List (ℕ × ℕ)) : Option Reported → Type 0 where
  no_word : list_all (has_words jobs) edges ≡ false → IsUnfixed texts footprints jobs edges None
  no_room : HasNoRoom texts.makefile jobs edges → IsUnfixed texts footprints jobs edges None
  refused : (lines : List ℕ) (reported : Reported) → IsFixText texts.makefile jobs edges lines
      → IsPrepared (with_lines texts lines) footprints (Err reported) → IsUnfixed texts footprints jobs edges (Some reported)
  tried : (lines : List ℕ) (prepared : Prepared) (refusal : Option Reported) → IsFixText texts.makefile jobs edges lines
      → IsPrepared (with_lines texts lines) footprints (Ok prepared) → IsNoFix jobs edges prepared.jobs refusal
      → IsUnfixed texts footprints jobs edges refusal

-- what new jobs come to: they are safe, and have all that the jobs have, and the edges; or they do not fix the jobs
abbrev pub IsTriedOf : Jobs → List (ℕ × ℕ) → Jobs → Tried → Type 0
IsTriedOf jobs edges given (Safe new) = (given ≡ new) × AreSafe new × HaveAll jobs edges new
IsTriedOf jobs edges given (Unsafe refusal) = IsNoFix jobs edges given refusal

-- what comes of texts: what their jobs come to, or the fault that refuses them
abbrev pub IsTriedWith : Jobs → List (ℕ × ℕ) → Result Prepared Reported → Tried → Type 0
IsTriedWith jobs edges (Ok prepared) found = IsTriedOf jobs edges prepared.jobs found
IsTriedWith jobs edges (Err reported) found = found ≡ Unsafe (Some reported)

abbrev pub IsTried : Texts → List ℕ → Jobs → List (ℕ × ℕ) → Tried → Type 0
IsTried texts footprints jobs edges found = (given : Result Prepared Reported) × IsPrepared texts footprints given × IsTriedWith jobs edges given found

-- the jobs that are safe are so, and determinate from one run
abbrev pub HoldsOfTried : Tried → Type 0
HoldsOfTried (Safe new) = AreSafe new × IsDeterminateFromOneRun new
HoldsOfTried (Unsafe refusal) = Unit {0}

-- what comes of the jobs of a build: lines that fix it; or the edges that it needs, and that no lines give them; or too many pairs clash
abbrev pub IsFixingOf : Texts → List ℕ → Jobs → Result Fixing Reported → Type 0
IsFixingOf texts footprints jobs (Ok (Fixed lines new)) = IsFixedBy texts footprints jobs lines.items new
IsFixingOf texts footprints jobs (Ok (NotFixed given edges refusal)) =
    (given ≡ jobs) × IsFix jobs edges.items × IsUnfixed texts footprints jobs edges.items refusal
IsFixingOf texts footprints jobs (Err reported) = (reported ≡ too_many) × HasManyPairs jobs

-- the jobs of a build, and what comes of them
abbrev pub IsFixing : Texts → List ℕ → Result Fixing Reported → Type 0
IsFixing texts footprints = ThenAny (IsPrepared texts footprints) (λ prepared. IsFixingOf texts footprints prepared.jobs)

-- where lines fix a build, no schedule of it shows in its files, with the lines behind its makefile
abbrev pub HoldsOfFixed : Texts → List ℕ → Fixing → Type 0
HoldsOfFixed texts footprints (Fixed lines new) = NoScheduleShows (with_lines texts lines.items) footprints
HoldsOfFixed texts footprints (NotFixed given edges refusal) = Unit {0}

-- the jobs that are handed out with the lines are safe, and determinate from one run
abbrev pub HoldsOfJobs : Fixing → Type 0
HoldsOfJobs (Fixed lines new) = AreSafe new × IsDeterminateFromOneRun new
HoldsOfJobs (NotFixed given edges refusal) = Unit {0}
