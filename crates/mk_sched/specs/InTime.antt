-- Runs in the order of time, and their beginnings.
use Rattle.std.specs.Prelude.{ℕ, ◌↔◌, ◌++◌, Bool, List, [], ◌∷◌, reverse}
use Rattle.mk_jobs.specs.Jobs.{Jobs}
use Rattle.mk_sched.specs.Stores.{Store}
use Rattle.mk_sched.specs.Events.{Event}
use Rattle.mk_sched.specs.Runs.{IsRun, May}

-- after this past each event, the oldest first, is allowed in its turn
abbrev pub GoesOn : Jobs → Bool → ℕ → Store → List Event → List Event → Type 0
GoesOn jobs tie limit opening past [] = Unit {0}
GoesOn jobs tie limit opening past (e ∷ events) =
    May jobs tie limit opening past e.node e.act × GoesOn jobs tie limit opening (e ∷ past) events

-- events in the order of time are each allowed in their turn exactly where their reverse, a past, is a run
abbrev pub InTime : Type 0
InTime =
    (jobs : Jobs) (tie : Bool) (limit : ℕ) (opening : Store) (events : List Event)
    → GoesOn jobs tie limit opening [] events ↔ IsRun jobs tie limit opening (reverse events)

-- a beginning of a run is a run
abbrev pub BeginningIsRun : Type 0
BeginningIsRun =
    (jobs : Jobs) (tie : Bool) (limit : ℕ) (opening : Store) (newer past : List Event)
    → IsRun jobs tie limit opening (newer ++ past) → IsRun jobs tie limit opening past
