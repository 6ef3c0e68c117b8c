-- All that keeps a build of an old tree from leaving what a build of a clean tree leaves, and what holds where nothing does.
use Rattle.std.specs.Prelude.{ℕ, ◌≡◌, true, List, [], Option, None, Result, Ok, Err}
use Rattle.mk_name.specs.Names.{Name}
use Rattle.mk_name.specs.Reported.{Reported}
use Rattle.mk_jobs.specs.Jobs.{Jobs}
use Rattle.mk_sched.specs.Events.{Event, store_after}
use Rattle.mk_sched.specs.Programs.{Program}
use Rattle.mk_sched.specs.Schedules.{stays}
use Rattle.mk_sched.specs.Stores.{Store, bytes_of}
use Rattle.mk_missing.specs.Incremental.{IsBuild, IsClean, IsKept, SameSources}
use Rattle.mk_missing.specs.Unlisted.{unlisted_names}
use Rattle.mk_missing.specs.Violations.{AreViolations, HasNone}
use Rattle.mk_race.specs.Again.{IsChange}
use Rattle.mk_race.specs.Judged.{NoScheduleShows}
use Rattle.mk_race.specs.Listed.{AreFound}
use Rattle.mk_race.specs.Stages.{IsPrepared, Texts, ThenAny}
use Rattle.mk_race.specs.declared.again.BuildChange.{BuildChange}
use Rattle.mk_race.specs.declared.missing.MissingList.{MissingList}
use Rattle.mk_race.specs.declared.preparing.Prepared.{Prepared}

-- what was prepared, with all races of its jobs, all their violations and this change; or more pairs clash than may
abbrev pub IsMissingListOf : Prepared → Option BuildChange → Result MissingList Reported → Type 0
IsMissingListOf prepared change (Ok listed) =
    (listed.prepared ≡ prepared) × AreFound prepared.jobs (Ok listed.found) × AreViolations prepared.jobs prepared.listing listed.violations
    × (listed.change ≡ change)
IsMissingListOf prepared change (Err reported) = AreFound prepared.jobs (Err reported)

-- the same, with the change of a second build
abbrev pub IsMissingListBy : Texts → Prepared → Result MissingList Reported → Type 0
IsMissingListBy texts prepared answer = (change : Option BuildChange) × IsChange texts prepared change × IsMissingListOf prepared change answer

-- the races and violations of a build: the stages give its jobs or their first fault, and then all are listed
abbrev pub IsMissingList : Texts → List ℕ → Result MissingList Reported → Type 0
IsMissingList texts footprints = ThenAny (IsPrepared texts footprints) (IsMissingListBy texts)

-- the list is empty: there is no race, no violation, and no change
pub record IsEmpty (listed : MissingList) : Type 0 where
  pub races : listed.found.races.items ≡ []
  pub violations : HasNone listed.violations
  pub change : listed.change ≡ None

-- a build of a tree that edits and builds led to from a clean one leaves at each name the bytes that a build of a clean tree with the same
-- sources leaves, if that one stays within the footprints, where no edit makes or changes an unlisted file
abbrev pub LeavesAsClean : Jobs → List Name → Type 0
LeavesAsClean jobs listing =
    (programs : ℕ → Program) (opening clean : Store) (a b : List Event)
    → IsKept jobs programs (unlisted_names jobs listing) opening → IsClean jobs clean → SameSources jobs opening clean
    → IsBuild jobs programs opening a → IsBuild jobs programs clean b → stays jobs b ≡ true
    → (x : Name) → bytes_of (store_after opening a x) ≡ bytes_of (store_after clean b x)

-- builds of old trees leave what those of clean ones leave: no schedule of the build shows, a second build, which finds what the first
-- one made, is planned as the first, and builds of the jobs leave so
pub record BuildsAsClean (texts : Texts) (footprints : List ℕ) : Type 0 where
  pub shows : NoScheduleShows texts footprints
  pub again : IsChange texts shows.prepared None
  pub as_clean : LeavesAsClean shows.prepared.jobs shows.prepared.listing
