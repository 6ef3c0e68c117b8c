-- Laws of the jobs of tasks.
use Rattle.std.specs.Prelude.{ℕ, ◌≡◌, ◌<◌, Bool, false, true, List, is_some, length}
use Rattle.mk_name.specs.Names.{Name}
use Rattle.mk_sched.specs.Events.{Event, is_started, phase}
use Rattle.mk_sched.specs.Runs.{IsComplete, IsRun}
use Rattle.mk_sched.specs.Stores.{AgreesWith, Store}
use Rattle.mk_task.specs.JobsOf.{jobs_of, own_name}
use Rattle.mk_task.specs.Tasks.{Task}

-- in a complete run of the jobs of tasks each task has started
abbrev pub TasksStart : Type 0
TasksStart =
    (root : List ℕ) (tasks : List Task) (tie : Bool) (limit : ℕ) (opening : Store) (past : List Event) (n : ℕ)
    → IsRun (jobs_of root tasks) tie limit opening past → IsComplete (jobs_of root tasks) past → n < length tasks
    → is_started (phase past n) ≡ true

-- a store has no file of a task's own name: no file system can have one
abbrev pub HasNoOwnNames : Store → Type 0
HasNoOwnNames store = (label : Name) → is_some (store (own_name label)) ≡ false

-- such a store agrees with the jobs of any tasks
abbrev pub StoresAgree : Type 0
StoresAgree = (root : List ℕ) (tasks : List Task) (store : Store) → HasNoOwnNames store → AgreesWith (jobs_of root tasks) store
