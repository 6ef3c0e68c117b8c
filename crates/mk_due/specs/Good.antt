-- What is known of items that were read.
use Rattle.std.specs.Prelude.{ℕ, ◌≡◌, ◌<◌, ◌≤◌, false, List, length, is_some}
use Rattle.std.specs.BTreeMap.{get}
use Rattle.std.specs.Cmp.Lexicographic.{slice_cmp}
use Rattle.std.specs.List.{All}
use Rattle.std.specs.Ordering.{nat_cmp}
use Rattle.mk_name.specs.Names.{IsDistinct, Name, same_name}
use Rattle.mk_jobs.specs.Plan.{NeedsStandBefore, edge_limit, node_limit}
use Rattle.mk_jobs.specs.Shape.{AreNamed}
use Rattle.mk_task.specs.Lines as tasks
use Rattle.mk_due.specs.declared.tally.Tally.{Tally}
use Rattle.mk_due.specs.Items.{DueItem, edge_count, names_of, nodes_of, path_count, task_number}

-- numbers of the first so many nodes
abbrev pub AreBelow : ℕ → List ℕ → Type 0
AreBelow bound numbers = All (λ n. n < bound) numbers

-- its paths have names
pub record IsNamed (item : DueItem) : Type 0 where
  pub reads : AreNamed item.reads
  pub writes : AreNamed item.writes

-- the same of a line
pub record IsNamedLine (line : tasks.TaskLine) : Type 0 where
  pub reads : AreNamed line.reads
  pub writes : AreNamed line.writes

-- no task has this label
abbrev pub IsNew : List DueItem → Name → Type 0
IsNew items label = is_some (task_number items label) ≡ false

-- items are few, and so are their edges; their names differ; each stands behind what it needs; and their paths have names
pub record AreGood (items : List DueItem) : Type 0 where
  pub few : length items ≤ node_limit
  pub few_edges : edge_count items ≤ edge_limit
  pub distinct : IsDistinct same_name (names_of items)
  pub behind : NeedsStandBefore (nodes_of items)
  pub named : All IsNamed items

-- what is kept beside items is theirs, and they are good: their names, the numbers of tasks by labels, and how many edges and paths they have
pub record IsTally (tally : Tally) : Type 0 where
  pub good : AreGood tally.items.items
  pub names_are : tally.names ≡ names_of tally.items.items
  pub tasks_are : (label : Name) → get (slice_cmp nat_cmp) tally.tasks label ≡ task_number tally.items.items label
  pub edges_are : tally.edges ≡ edge_count tally.items.items
  pub paths_are : tally.paths ≡ path_count tally.items.items
