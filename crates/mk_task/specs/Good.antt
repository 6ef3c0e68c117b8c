-- What is known of tasks that were read.
use Rattle.std.specs.Prelude.{ℕ, ◌≡◌, ◌<◌, ◌≤◌, false, List, length, get_or, nat_eq, IsTrue}
use Rattle.std.specs.List.{All}
use Rattle.mk_name.specs.Names.{IsDistinct, has, same_name}
use Rattle.mk_path.specs.declared.path.Path.{Path}
use Rattle.mk_path.specs.Paths.{covers}
use Rattle.mk_jobs.specs.Plan.{edge_limit, node_limit}
use Rattle.mk_jobs.specs.Shape.{AreNamed}
use Rattle.mk_task.specs.JobsOf.{own_name}
use Rattle.mk_task.specs.Tasks.{Task, edge_count, labels_of, path_count}

-- a path covers no task's own name
abbrev pub IsApart : List ℕ → Path → Type 0
IsApart root path = (label : List ℕ) → covers root path (own_name label) ≡ false

-- its paths have names, and it writes no task's own name
pub record IsPlain (root : List ℕ) (task : Task) : Type 0 where
  pub reads_named : AreNamed task.reads
  pub writes_named : AreNamed task.writes
  pub apart : All (IsApart root) task.writes

-- a task stands behind smaller numbers alone
abbrev pub StandBehind : List Task → Type 0
StandBehind tasks = (i p : ℕ) (d : Task) → i < length tasks → IsTrue (has nat_eq (get_or tasks i d).needs p) → p < i

-- tasks are few, and so are their edges; labels differ; each stands behind earlier ones; and they are plain
pub record AreGood (root : List ℕ) (tasks : List Task) : Type 0 where
  pub few : length tasks ≤ node_limit
  pub few_edges : edge_count tasks ≤ edge_limit
  pub distinct : IsDistinct same_name (labels_of tasks)
  pub behind : StandBehind tasks
  pub plain : All (IsPlain root) tasks

-- tasks, and what is kept beside them: their labels, and how many edges and paths they have
pub record Tally : Type 0 where
  pub tasks : List Task
  pub labels : List (List ℕ)
  pub edges : ℕ
  pub paths : ℕ

-- it is theirs, and they are few
pub record IsTally (tally : Tally) : Type 0 where
  pub few : length tally.tasks ≤ node_limit
  pub labels_are : tally.labels ≡ labels_of tally.tasks
  pub edges_are : tally.edges ≡ edge_count tally.tasks
  pub paths_are : tally.paths ≡ path_count tally.tasks
