-- The fix of a text of tasks: the edges that its jobs need, and these jobs with them.
use Rattle.std.specs.Prelude.{ℕ, ◌≡◌, ◌<◌, List, Result, Ok, Err}
use Rattle.mk_name.specs.Reported.{Reported}
use Rattle.mk_jobs.specs.Jobs.{Jobs, IsRaceFree}
use Rattle.mk_jobs.specs.Plan.{edge_count, edge_limit}
use Rattle.mk_decide.specs.Decisions.{AreSafe}
use Rattle.mk_decide.specs.Pairs.{HasManyPairs, too_many}
use Rattle.mk_fix.specs.Added.{with_edges}
use Rattle.mk_fix.specs.Fixes.{IsFix}
use Rattle.mk_report.specs.FixText.{IsTaskLines, needs_text}
use Rattle.mk_report.specs.declared.fixes.Form.TheVariants.{Tasks}
use Rattle.mk_sched.specs.Laws.{IsDeterminate}
use Rattle.mk_race.specs.Stages.{Then}
use Rattle.mk_race.specs.Tasked.{EachStarts, TasksRunAlike, tasked}
use Rattle.mk_race.specs.declared.tasks_fixing.TaskFixing.{TaskFixing}
use Rattle.mk_race.specs.declared.tasks_fixing.TaskFixing.TheVariants.{Fixed, NotFixed}

-- lines fix tasks of these jobs: they say the fix of the jobs; and the jobs with it are safe
pub record AreFixedBy (jobs : Jobs) (lines : List ℕ) (new : Jobs) : Type 0 where
  pub edges : List (ℕ × ℕ)
  pub fix : IsFix jobs edges
  pub says : IsTaskLines jobs edges lines
  pub added : new ≡ with_edges jobs edges
  pub safe : AreSafe new

-- tasks of these jobs are not fixed, as this text says: with their fix they would have too many edges
pub record AreNotFixed (jobs : Jobs) (text : List ℕ) : Type 0 where
  pub edges : List (ℕ × ℕ)
  pub fix : IsFix jobs edges
  pub many : edge_limit < edge_count (with_edges jobs edges).plan.nodes
  pub says : text ≡ needs_text Tasks jobs edges

-- what comes of the jobs of tasks: lines that fix them; or the edges that they need, which are too many; or too many pairs clash
abbrev pub IsTaskFixingOf : Jobs → Result TaskFixing Reported → Type 0
IsTaskFixingOf jobs (Ok (Fixed lines new)) = AreFixedBy jobs lines.items new
IsTaskFixingOf jobs (Ok (NotFixed text)) = AreNotFixed jobs text.items
IsTaskFixingOf jobs (Err reported) = (reported ≡ too_many) × HasManyPairs jobs

-- the jobs of tasks, and what comes of them
abbrev pub IsTaskFixing : List ℕ → List ℕ → Result TaskFixing Reported → Type 0
IsTaskFixing root text = Then (tasked root text) IsTaskFixingOf

-- the text of tasks means jobs; with their fix these are race-free and determinate, each task starts in every complete run, and
-- their runs are alike
pub record FixHolds (root text : List ℕ) (new : Jobs) : Type 0 where
  pub jobs : Jobs
  pub edges : List (ℕ × ℕ)
  pub given : tasked root text ≡ Ok jobs
  pub fix : IsFix jobs edges
  pub added : new ≡ with_edges jobs edges
  pub free : IsRaceFree new
  pub determinate : IsDeterminate new
  pub start : EachStarts new
  pub alike : TasksRunAlike new

-- where tasks are fixed, this is so of the jobs that are handed out
abbrev pub HoldsOfFixedTasks : List ℕ → List ℕ → TaskFixing → Type 0
HoldsOfFixedTasks root text (Fixed lines new) = FixHolds root text new
HoldsOfFixedTasks root text (NotFixed lines) = Unit {0}

-- and these jobs are safe
abbrev pub AreSafeIfFixed : TaskFixing → Type 0
AreSafeIfFixed (Fixed lines new) = AreSafe new
AreSafeIfFixed (NotFixed lines) = Unit {0}
