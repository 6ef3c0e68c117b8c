-- Refusals against what is allowed.
use Rattle.std.specs.Prelude.{ℕ, ◌↔◌, Bool, List, None}
use Rattle.mk_jobs.specs.Jobs.{Jobs}
use Rattle.mk_sched.specs.Stores.{Store}
use Rattle.mk_sched.specs.Events.{Act, Event}
use Rattle.mk_sched.specs.Runs.{IsRun, May}
use Rattle.mk_sched.specs.Refusals.{Finds, Holds, asked}
use Rattle.mk_sched.specs.Table.{reported_by}

-- after a run an act is allowed exactly where none of the refusals that are asked of it holds
abbrev pub AllowedUnlessRefused : Type 0
AllowedUnlessRefused =
    (jobs : Jobs) (tie : Bool) (limit : ℕ) (opening : Store) (past : List Event) (n : ℕ) (a : Act)
    → IsRun jobs tie limit opening past
    → May jobs tie limit opening past n a ↔ Finds (Holds jobs tie limit (reported_by opening past) n a) (asked a) None
