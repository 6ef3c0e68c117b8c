-- All that keeps tasks in an old tree from leaving what they leave in a clean tree, and what holds where nothing does.
use Rattle.std.specs.Prelude.{ℕ, ◌≡◌, List, None, Result, Ok}
use Rattle.mk_name.specs.Names.{Name}
use Rattle.mk_name.specs.Reported.{Reported}
use Rattle.mk_due.specs.JobsOf.{AreJobsIn}
use Rattle.mk_jobs.specs.Jobs.{Jobs}
use Rattle.mk_sched.specs.Schedules.{IsDeterminateFromOneRun}
use Rattle.mk_text.specs.Listing.{listing_of}
use Rattle.mk_text.specs.Spelling.{root_of}
use Rattle.mk_race.specs.Missing.{IsMissingListOf, LeavesAsClean}
use Rattle.mk_race.specs.Stages.{Then, ThenAny}
use Rattle.mk_race.specs.declared.missing.MissingList.{MissingList}
use Rattle.mk_race.specs.declared.preparing.Prepared.{Prepared}

-- with the jobs of tasks go the root and the listing
abbrev pub tasks_with : List ℕ → List Name → Jobs → Prepared
tasks_with root listed jobs = record { root = root; listing = listed; jobs = jobs }

-- the root, the listing, and then the jobs that tasks mean with it
abbrev pub IsPreparedBelow : List ℕ → List ℕ → List ℕ → Result Prepared Reported → Type 0
IsPreparedBelow root listing tasks =
    Then (root_of root) (λ root. Then (listing_of root listing) (λ listed. ThenAny (AreJobsIn root listed tasks) (λ jobs answer.
    answer ≡ Ok (tasks_with root listed jobs))))

-- the races and violations of tasks: they mean jobs or have a first fault, and then all are listed; their graph is what they say, so
-- no second build changes it
abbrev pub IsMissingListBelow : List ℕ → List ℕ → List ℕ → Result MissingList Reported → Type 0
IsMissingListBelow root listing tasks = ThenAny (IsPreparedBelow root listing tasks) (λ prepared. IsMissingListOf prepared None)

-- tasks in old trees leave what they leave in clean ones: the texts mean jobs, whose builds leave so; and no schedule of these jobs shows
pub record TasksBuildAsClean (root listing tasks : List ℕ) : Type 0 where
  pub prepared : Prepared
  pub given : IsPreparedBelow root listing tasks (Ok prepared)
  pub from_one_run : IsDeterminateFromOneRun prepared.jobs
  pub as_clean : LeavesAsClean prepared.jobs prepared.listing
