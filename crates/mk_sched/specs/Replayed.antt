-- What a replay answers.
use Rattle.std.specs.Prelude.{ℕ, ◌≡◌, ◌+◌, ◌↔◌, Bool, List, ◌∷◌, ◌++◌, length, Some, IsTrue}
use Rattle.mk_name.specs.Names.{Name}
use Rattle.mk_jobs.specs.Jobs.{Jobs}
use Rattle.mk_sched.specs.Stores.{Store, AgreesWithListing}
use Rattle.mk_sched.specs.Stored.{StoredFiles, store_of}
use Rattle.mk_sched.specs.Events.{store_after}
use Rattle.mk_sched.specs.Runs.{IsRun, IsComplete, May}
use Rattle.mk_sched.specs.Refusals.{Finds, Holds, asked}
use Rattle.mk_sched.specs.Steps.{step_of, past_of}
use Rattle.mk_sched.specs.Table.{reported_by}
use Rattle.mk_sched.specs.declared.event.Event.{Event as LogEvent}
use Rattle.mk_sched.specs.declared.refusal.Refusal.{Refusal}
use Rattle.mk_sched.specs.declared.refusal.Refusal.TheVariants.{StoreNotListing}

-- the files are what these events leave
abbrev pub IsLeft : Store → List LogEvent → StoredFiles → Type 0
IsLeft opening events files = (x : Name) → store_of files x ≡ store_after opening (past_of events) x

-- replayed: the store agrees with the listing, the events are a run, these files are what they leave, and whether the run
-- is complete
pub record IsReplayed (jobs : Jobs) (listed : Name → Bool) (tie : Bool) (limit : ℕ) (opening : StoredFiles) (events : List LogEvent) (files : StoredFiles) (complete : Bool) : Type 0 where
  pub agrees : AgreesWithListing listed (store_of opening)
  pub run : IsRun jobs tie limit (store_of opening) (past_of events)
  pub left : IsLeft (store_of opening) events files
  pub whole : IsTrue complete ↔ IsComplete jobs (past_of events)

-- the store is refused: it does not agree with the listing, and comes back as it was
pub record IsStoreRefused (listed : Name → Bool) (opening files : StoredFiles) (place : ℕ) (refusal : Refusal) : Type 0 where
  pub first : place ≡ 0
  pub reported : refusal ≡ StoreNotListing
  pub differs : AgreesWithListing listed (store_of opening) → ⊥
  pub same : files ≡ opening

-- an event is refused, and reported by its place from 1: the store has the listed files, what stands before the event is a
-- run that leaves these files, the event is not allowed, and of the refusals that are asked of it this one holds first
pub record IsEventRefused (jobs : Jobs) (listed : Name → Bool) (tie : Bool) (limit : ℕ) (opening : StoredFiles) (events : List LogEvent) (files : StoredFiles) (place : ℕ) (refusal : Refusal) : Type 0 where
  pub agrees : AgreesWithListing listed (store_of opening)
  pub before : List LogEvent
  pub event : LogEvent
  pub rest : List LogEvent
  pub cut : events ≡ before ++ event ∷ rest
  pub placed : place ≡ length before + 1
  pub run : IsRun jobs tie limit (store_of opening) (past_of before)
  pub left : IsLeft (store_of opening) before files
  pub not_allowed : May jobs tie limit (store_of opening) (past_of before) (step_of event).node (step_of event).act → ⊥
  pub first : Finds (Holds jobs tie limit (reported_by (store_of opening) (past_of before)) (step_of event).node (step_of event).act) (asked (step_of event).act) (Some refusal)
