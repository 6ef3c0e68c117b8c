-- For private clauses: rows of paths that make jobs of a plan.
use Rattle.std.specs.Prelude.{ℕ, ◌≡◌, ◌<◌, List, [], false, length, true}
use Rattle.mk_path.specs.declared.path.Path.{Path}
use Rattle.mk_path.specs.Paths.{covered}
use Rattle.mk_jobs.specs.Plan.{Plan, node_at}
use Rattle.mk_jobs.specs.Recipes.{is_live_node}
use Rattle.mk_jobs.specs.Shape.{AreNamed, IsRising}

-- these paths cover no name of a node but that of node n
abbrev pub OwnsAlone : Plan → List ℕ → ℕ → List Path → Type 0
OwnsAlone plan root n paths =
    (m : ℕ) → m < length plan.nodes → covered root paths (node_at plan.nodes m).name ≡ true → n ≡ m

-- what a node reads and writes rises and has names, is nothing unless the node is live, and is no other node's
pub record RowFits (plan : Plan) (root : List ℕ) (n : ℕ) (reads writes : List Path) : Type 0 where
  pub reads_rise : IsRising reads
  pub writes_rise : IsRising writes
  pub reads_named : AreNamed reads
  pub writes_named : AreNamed writes
  pub no_reads : is_live_node (node_at plan.nodes n) ≡ false → reads ≡ []
  pub no_writes : is_live_node (node_at plan.nodes n) ≡ false → writes ≡ []
  pub alone : OwnsAlone plan root n writes
