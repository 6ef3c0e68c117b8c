-- Why a replay stops.
use Rattle.std.specs.Prelude.{ℕ, ◌⊎◌, Bool, List}
use Rattle.mk_name.specs.Names.{Name}
use Rattle.mk_jobs.specs.Jobs.{Jobs}
use Rattle.mk_sched.specs.Stored.{StoredFiles}
use Rattle.mk_sched.specs.Replayed.{IsStoreRefused, IsEventRefused}
use Rattle.mk_sched.specs.declared.event.Event.{Event as LogEvent}
use Rattle.mk_sched.specs.declared.replay.Stopped.{Stopped}
use Rattle.mk_sched.specs.declared.replay.Stopped.TheVariants as stops

-- out of memory may stop any replay; else the store or an event is refused
abbrev pub IsStopped : Jobs → (Name → Bool) → Bool → ℕ → StoredFiles → List LogEvent → Stopped → Type 0
IsStopped jobs listed tie limit opening events stops.Memory = Unit {0}
IsStopped jobs listed tie limit opening events (stops.Refused files place refusal) =
    IsStoreRefused listed opening files place refusal
    ⊎ IsEventRefused jobs listed tie limit opening events files place refusal
