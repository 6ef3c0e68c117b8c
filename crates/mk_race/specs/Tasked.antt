-- The jobs of a text of tasks, and what is said of their runs where the tasks are safe.
use Rattle.std.specs.Prelude.{ℕ, ◌≡◌, ◌<◌, Bool, true, List, Result, Ok, Err}
use Rattle.mk_name.specs.Reported.{Reported}
use Rattle.mk_jobs.specs.Jobs.{Jobs, node_count}
use Rattle.mk_proof.specs.ProofText.{IsProofRead}
use Rattle.mk_proof.specs.declared.proof.Proof.{Proof}
use Rattle.mk_sched.specs.Events.{Event, is_started, phase}
use Rattle.mk_sched.specs.Laws.{SameOutcome}
use Rattle.mk_sched.specs.Runs.{IsComplete, IsRun, RecipesAgree}
use Rattle.mk_sched.specs.Schedules.{IsSchedule, stays}
use Rattle.mk_sched.specs.Stores.{Store}
use Rattle.mk_text.specs.Spelling.{root_of}
use Rattle.mk_task.specs.JobsOf.{jobs_in}
use Rattle.mk_task.specs.Started.{HasNoOwnNames}
use Rattle.mk_race.specs.Verified.{Shows}

-- the jobs that a text of tasks means below the root of a path
abbrev pub below : List ℕ → Result (List ℕ) Reported → Result Jobs Reported
below text (Ok root) = jobs_in root text
below text (Err fault) = Err fault

-- what a path of the root and a text of tasks mean: jobs, or the fault of the root, or that of the first line that has one
abbrev pub tasked : List ℕ → List ℕ → Result Jobs Reported
tasked root text = below text (root_of root)

-- what is so of all roots and texts of tasks that mean these jobs
abbrev pub ForAllTasks : Jobs → (List ℕ → List ℕ → Type 0) → Type 0
ForAllTasks jobs Holds = (root text : List ℕ) → tasked root text ≡ Ok jobs → Holds root text

-- from one store that has no task's own name: each complete schedule of the jobs has the outcome of a complete one that stays within
-- the footprints, if their recipes agree
abbrev pub TasksRunAlike : Jobs → Type 0
TasksRunAlike jobs =
    (opening : Store) (tie : Bool) (limit other : ℕ) (seen past : List Event) → HasNoOwnNames opening
    → IsSchedule jobs tie limit opening seen → stays jobs seen ≡ true → IsComplete jobs seen
    → IsSchedule jobs tie other opening past → IsComplete jobs past → RecipesAgree seen past → SameOutcome jobs opening seen past

-- each task has started in every complete run
abbrev pub EachStarts : Jobs → Type 0
EachStarts jobs =
    (opening : Store) (tie : Bool) (limit : ℕ) (past : List Event) (n : ℕ)
    → IsRun jobs tie limit opening past → IsComplete jobs past → n < node_count jobs → is_started (phase past n) ≡ true

-- no schedule of tasks shows in their files: the text means jobs, whose tasks all start, and whose runs are alike
pub record NoScheduleOfTasksShows (root text : List ℕ) : Type 0 where
  pub jobs : Jobs
  pub given : tasked root text ≡ Ok jobs
  pub start : EachStarts jobs
  pub alike : TasksRunAlike jobs

-- the text of tasks means jobs, that of a proof means a proof, and what this shows is so of these jobs
pub record ProofOfTasksShows (root text proof_text : List ℕ) : Type 0 where
  pub jobs : Jobs
  pub proof : Proof
  pub given : tasked root text ≡ Ok jobs
  pub read : IsProofRead proof_text (Ok proof)
  pub shown : Shows jobs proof
