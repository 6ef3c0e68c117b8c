-- For private clauses: where a walk along the steps of a trace stands, tables of times, and paths of a row.
use Rattle.std.specs.Prelude.{ℕ, ◌≡◌, ◌==◌, ◌++◌, List, Option, None, true, Contains, get_or, unwrap_or, if◌then◌else◌}
use Rattle.mk_proof.specs.declared.step.Step.{Step}
use Rattle.mk_proof.specs.declared.step.Step.TheVariants.{Skip, Start, Finish}
use Rattle.mk_sched.specs.Events.{Phase}
use Rattle.mk_sched.specs.Events.Phase.{Waiting as waits, Running as runs, Skipped as skipped, Ran as ran}
use Rattle.mk_path.specs.declared.path.Path.{Path}
use Rattle.mk_path.specs.Texts.{text_of}
use Rattle.mk_jobs.specs.Jobs.{Jobs, reads_of, writes_of}
use Rattle.mk_cert.specs.Traces.{clash_over, time_of}
use Rattle.mk_cert.specs.declared.stage.Stage.{Stage}
use Rattle.mk_cert.specs.declared.stage.Stage.TheVariants.{Waiting, Running, Skipped, Ran}

-- what a stage says has become of a node
abbrev pub phase_of : Stage → Phase
phase_of Waiting = waits
phase_of Running = runs
phase_of Skipped = skipped
phase_of Ran = ran

-- what has become of each node; one that is no node waits
abbrev pub phases_of : List Stage → ℕ → Phase
phases_of stages n = phase_of (get_or stages n Waiting)

-- what has become of each node after one step more
abbrev pub moved : (ℕ → Phase) → Step → ℕ → Phase
moved before (Skip n) k = if n == k then skipped else before k
moved before (Start n) k = if n == k then runs else before k
moved before (Finish n) k = if n == k then ran else before k

-- the time in a table, and zero where none is
abbrev pub time_in : List (Option ℕ) → ℕ → ℕ
time_in table n = unwrap_or (get_or table n None) 0

-- a table has the times of the nodes, each at its node's place
abbrev pub HoldsTimes : List (Option ℕ) → List (ℕ × ℕ) → Type 0
HoldsTimes table times = (n : ℕ) → get_or table n None ≡ time_of times n

-- the paths that a node reads, and those that it writes
abbrev pub row_of : Jobs → ℕ → List Path
row_of jobs n = reads_of jobs n ++ writes_of jobs n

-- a text spells one of these paths, and two nodes clash on what it covers
pub record IsOnOne (jobs : Jobs) (a b : ℕ) (paths : List Path) (text : List ℕ) : Type 0 where
  pub path : Path
  pub there : Contains paths path
  pub spells : text_of path ≡ text
  pub clash : clash_over jobs a b path ≡ true
