-- When a task runs that says when it is due.
use Rattle.std.specs.Prelude.{ℕ, ◌≡◌, ◌<◌, ◌↔◌, Bool, true, false, List, Option, None, Some, Ok, IsTrue}
use Rattle.std.specs.Option.{option_map_or}
use Rattle.mk_name.specs.Names.{Name, has, same_name}
use Rattle.mk_text.specs.Listing.{lines}
use Rattle.mk_jobs.specs.Jobs.{Jobs, IsValid, name_of, node_count}
use Rattle.mk_foot.specs.Json.{is_blank}
use Rattle.mk_sched.specs.Stores.{File, Store, outdates}
use Rattle.mk_sched.specs.Events.{Event, history, is_started, phase}
use Rattle.mk_sched.specs.Runs.{IsComplete, IsRun}
use Rattle.mk_missing.specs.Doings.{has_write}
use Rattle.mk_task.specs.JobsOf.{own_name}
use Rattle.mk_task.specs.Started.{HasNoOwnNames}
use Rattle.mk_due.specs.Items.{order_name}
use Rattle.mk_due.specs.JobsOf.{AreJobsIn}
use Rattle.mk_due.specs.Lines.{Due, DueLine, line_of}

-- a text says this line
pub record IsSaid (root text : List ℕ) (line : DueLine) : Type 0 where
  pub said : List ℕ
  pub among : IsTrue (has same_name (lines text) said)
  pub not_blank : is_blank said ≡ false
  pub reads : line_of root said ≡ Some line

-- the name of the node of a line's task: that of the file that it makes, or one of its own
abbrev pub task_name : DueLine → Name
task_name line = option_map_or (λ (due : Due). due.makes) line.due (own_name line.task.label)

-- x was made in this build: its node wrote it
abbrev pub IsMade : Jobs → List Event → Name → Type 0
IsMade jobs past x = (p : ℕ) × (name_of jobs p ≡ x) × (has_write x (history past p) ≡ true)

-- a task is due in this build of an old tree: always, where it does not say when; else its file is absent, or a file that it needs is
-- absent or newer, or was made in this build
pub data IsDue (jobs : Jobs) (tie : Bool) (opening : Store) (past : List Event) : Option Due → Type 0 where
  always : IsDue jobs tie opening past None
  absent : {due : Due} → opening due.makes ≡ None → IsDue jobs tie opening past (Some due)
  older : {due : Due} (x : Name) → IsTrue (has same_name due.needs x) → outdates tie (opening due.makes) (opening x) ≡ true
      → IsDue jobs tie opening past (Some due)
  made : {due : Due} (x : Name) → IsTrue (has same_name due.needs x) → IsMade jobs past x → IsDue jobs tie opening past (Some due)

-- the order node of a line, which no file has and the model takes for one that is there, makes the file of its task not out of date
abbrev pub LetsRest : Bool → Store → DueLine → Type 0
LetsRest tie opening line =
    (due : Due) (own : File) → line.due ≡ Some due → opening due.makes ≡ Some own
    → outdates tie (Some own) (opening (order_name line.task.label)) ≡ false

-- this is so of the task of a line: it has a node, which runs in this build exactly if the task is due
pub record RunsWhenDue (jobs : Jobs) (tie : Bool) (opening : Store) (past : List Event) (line : DueLine) : Type 0 where
  pub node : ℕ
  pub inside : node < node_count jobs
  pub name_is : name_of jobs node ≡ task_name line
  pub runs : (is_started (phase past node) ≡ true) ↔ IsDue jobs tie opening past line.due

-- in a complete run of the valid jobs of a text, from any store that has no task's own name, each task that the text says runs exactly
-- if it is due, where its order node lets it rest
abbrev pub DueTasksRun : Type 0
DueTasksRun =
    (root : List ℕ) (listing : List Name) (text : List ℕ) (jobs : Jobs) (line : DueLine) (tie : Bool) (limit : ℕ) (opening : Store) (past : List Event)
    → AreJobsIn root listing text (Ok jobs) → IsValid jobs → IsSaid root text line
    → HasNoOwnNames opening → LetsRest tie opening line
    → IsRun jobs tie limit opening past → IsComplete jobs past → RunsWhenDue jobs tie opening past line
