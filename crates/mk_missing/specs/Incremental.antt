-- Builds of trees that were built before: edits, and what a row of edits and builds leads to.
use Rattle.std.specs.Prelude.{ℕ, ◌≡◌, ◌<◌, ◌⊎◌, Bool, true, false, List, Option, Some, None, is_some}
use Rattle.mk_name.specs.Names.{Name}
use Rattle.mk_jobs.specs.Jobs.{Jobs, IsValid, IsRaceFree, node_count, name_of, is_listed, may_write}
use Rattle.mk_sched.specs.Stores.{File, Store, bytes_of}
use Rattle.mk_sched.specs.Events.{Event, store_after}
use Rattle.mk_sched.specs.Runs.{IsComplete}
use Rattle.mk_sched.specs.Schedules.{IsSchedule, TimesRise, stays}
use Rattle.mk_sched.specs.Programs.{Program, FollowsPrograms}
use Rattle.mk_missing.specs.Watching.{makes_own, IsDeclared}
use Rattle.mk_missing.specs.Doings.{AreAfresh}

-- the store has its sources: of the nodes that do not make their own file, just the listed ones are there
abbrev pub HasSources : Jobs → Store → Type 0
HasSources jobs store = (n : ℕ) → n < node_count jobs → makes_own jobs n ≡ false → is_some (store (name_of jobs n)) ≡ is_listed jobs n

-- a store is clean: it has its sources, and nothing that a recipe may write
pub record IsClean (jobs : Jobs) (store : Store) : Type 0 where
  pub made : (n : ℕ) (x : Name) → may_write jobs n x ≡ true → store x ≡ None
  pub sources : HasSources jobs store

-- x is a source: no recipe may write it
abbrev pub IsSource : Jobs → Name → Type 0
IsSource jobs x = (n : ℕ) → may_write jobs n x ≡ false

-- two stores have the same sources, whatever their times
abbrev pub SameSources : Jobs → Store → Store → Type 0
SameSources jobs a b = (x : Name) → IsSource jobs x → bytes_of (a x) ≡ bytes_of (b x)

-- this file, if there is one, is newer than every file of the store
abbrev pub IsNewer : Store → Option File → Type 0
IsNewer store new = (file : File) → new ≡ Some file → (x : Name) (old : File) → store x ≡ Some old → old.time < file.time

-- what an edit did at one name: nothing; or x is a source that is not fixed, and is now gone or newer than all; or the file that a
-- node makes is gone
pub data Edited (jobs : Jobs) (fixed : Name → Bool) (old new : Store) (x : Name) : Type 0 where
  same : new x ≡ old x → Edited jobs fixed old new x
  source : IsSource jobs x → fixed x ≡ false → IsNewer old (new x) → Edited jobs fixed old new x
  removed : (n : ℕ) → name_of jobs n ≡ x → makes_own jobs n ≡ true → new x ≡ None → Edited jobs fixed old new x

-- from one store to the other is an edit: it did so at each name, and left the nodes that are sources where they were
pub record IsEdit (jobs : Jobs) (fixed : Name → Bool) (old new : Store) : Type 0 where
  pub each : (x : Name) → Edited jobs fixed old new x
  pub sources : HasSources jobs new

-- a build, wherever its recipes look and write: a complete schedule from this store in which times rise, whose recipes follow these
-- programs and work afresh, with any limit and either reading of equal times
pub record IsBuild (jobs : Jobs) (programs : ℕ → Program) (opening : Store) (past : List Event) : Type 0 where
  pub tie : Bool
  pub limit : ℕ
  pub schedule : IsSchedule jobs tie limit opening past
  pub rise : TimesRise opening past
  pub complete : IsComplete jobs past
  pub follows : FollowsPrograms programs past
  pub afresh : AreAfresh jobs opening past

-- it was seen clean: a build of a clean store with the same sources stayed within the footprints
pub record IsSeenClean (jobs : Jobs) (programs : ℕ → Program) (store : Store) : Type 0 where
  pub clean : Store
  pub past : List Event
  pub is_clean : IsClean jobs clean
  pub sources : SameSources jobs store clean
  pub build : IsBuild jobs programs clean past
  pub stayed : stays jobs past ≡ true

-- a store is kept: it is clean, or an edit of what a build of a kept store left; and that build stayed, or the kept store was seen clean
pub data IsKept (jobs : Jobs) (programs : ℕ → Program) (fixed : Name → Bool) : Store → Type 0 where
  clean : {store : Store} → IsClean jobs store → IsKept jobs programs fixed store
  edited : {store new : Store} {past : List Event} → IsKept jobs programs fixed store → IsBuild jobs programs store past
      → (stays jobs past ≡ true) ⊎ IsSeenClean jobs programs store → IsEdit jobs fixed (store_after store past) new → IsKept jobs programs fixed new

-- old trees stay: of valid, race-free and declared jobs, a build of a kept store that was seen clean stays within the footprints
abbrev pub OldTreesStay : Type 0
OldTreesStay =
    (jobs : Jobs) (programs : ℕ → Program) (fixed : Name → Bool) (opening : Store) (past : List Event)
    → IsValid jobs → IsRaceFree jobs → IsDeclared jobs fixed
    → IsKept jobs programs fixed opening → IsSeenClean jobs programs opening → IsBuild jobs programs opening past → stays jobs past ≡ true

-- the second headline: of valid, race-free and declared jobs, a build of a kept store leaves at each name what a build of a clean store
-- with the same sources leaves, if that one stays
abbrev pub AsFromClean : Type 0
AsFromClean =
    (jobs : Jobs) (programs : ℕ → Program) (fixed : Name → Bool) (opening clean : Store) (a b : List Event)
    → IsValid jobs → IsRaceFree jobs → IsDeclared jobs fixed
    → IsKept jobs programs fixed opening → IsClean jobs clean → SameSources jobs opening clean
    → IsBuild jobs programs opening a → IsBuild jobs programs clean b → stays jobs b ≡ true
    → (x : Name) → bytes_of (store_after opening a x) ≡ bytes_of (store_after clean b x)
