-- The full shape of the jobs that footprints give.
use Rattle.std.specs.Prelude.{ℕ, ◌≡◌, ◌<◌, ◌≤◌, true, false, List, [], length}
use Rattle.std.specs.List.{All}
use Rattle.std.specs.List.Sorted.{IsStrictlySortedBy}
use Rattle.mk_path.specs.declared.path.Path.{Path}
use Rattle.mk_path.specs.Paths.{path_cmp}
use Rattle.mk_jobs.specs.Plan.{edge_count, edge_limit, node_limit}
use Rattle.mk_jobs.specs.Jobs.{Jobs, IsPrerequisite, node_count, name_of, is_live, reads_of, writes_of, may_write}

-- each path stands before those after it: by name, byte by byte, and of one name the file before the tree
abbrev pub IsRising : List Path → Type 0
IsRising paths = IsStrictlySortedBy path_cmp paths

-- the name of each path has a byte
abbrev pub AreNamed : List Path → Type 0
AreNamed paths = All (λ (p : Path). 1 ≤ length p.name) paths

-- well-formed: nodes and edges are few; names differ; prerequisites have smaller numbers; each node has its two lists,
-- rising, of paths whose names have bytes, and empty unless it is live; and a node's name may be written by a node of that
-- name alone
pub record IsWellFormed (jobs : Jobs) : Type 0 where
  pub few : node_count jobs ≤ node_limit
  pub few_edges : edge_count jobs.plan.nodes ≤ edge_limit
  pub distinct : (n m : ℕ) → n < node_count jobs → m < node_count jobs → name_of jobs n ≡ name_of jobs m → n ≡ m
  pub smaller : (n p : ℕ) → IsPrerequisite jobs p n → p < n
  pub all_reads : length jobs.reads ≡ node_count jobs
  pub all_writes : length jobs.writes ≡ node_count jobs
  pub reads_rise : (n : ℕ) → IsRising (reads_of jobs n)
  pub writes_rise : (n : ℕ) → IsRising (writes_of jobs n)
  pub reads_named : (n : ℕ) → AreNamed (reads_of jobs n)
  pub writes_named : (n : ℕ) → AreNamed (writes_of jobs n)
  pub no_reads : (n : ℕ) → is_live jobs n ≡ false → reads_of jobs n ≡ []
  pub no_writes : (n : ℕ) → is_live jobs n ≡ false → writes_of jobs n ≡ []
  pub own : (n m : ℕ) → m < node_count jobs → may_write jobs n (name_of jobs m) ≡ true → name_of jobs n ≡ name_of jobs m
