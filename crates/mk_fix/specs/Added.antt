-- Edges added to jobs.
use Rattle.std.specs.Prelude.{ℕ, ◌≡◌, ◌==◌, ◌<◌, List, [], ◌∷◌, ◌++◌, Contains, Option, None, Some, true, if◌then◌else◌}
use Rattle.mk_jobs.specs.Plan.{Node, edge_count, edge_limit}
use Rattle.mk_jobs.specs.Jobs.{Jobs, is_live, node_count}

-- where the edges to a node come from, in the order of the edges
abbrev pub sources_to : List (ℕ × ℕ) → ℕ → List ℕ
sources_to [] n = []
sources_to (e ∷ edges) n = if e.1 == n then e.0 ∷ sources_to edges n else sources_to edges n

-- nodes, of which the first has the number n: each gets the sources of its edges behind its own prerequisites
abbrev pub more_needs : List (ℕ × ℕ) → ℕ → List Node → List Node
more_needs edges n [] = []
more_needs edges n (node ∷ nodes) =
    record node { prerequisites = node.prerequisites ++ sources_to edges n } ∷ more_needs edges (ℕ.suc n) nodes

-- the jobs with these edges too: nothing changes except prerequisites
abbrev pub with_edges : Jobs → List (ℕ × ℕ) → Jobs
with_edges jobs edges = record jobs { plan = record jobs.plan { nodes = more_needs edges 0 jobs.plan.nodes } }

-- each edge goes from a smaller number to the greater number of a live node
abbrev pub AreRisingToLive : Jobs → List (ℕ × ℕ) → Type 0
AreRisingToLive jobs edges = (a b : ℕ) → Contains edges (a, b) → (a < b) × (is_live jobs b ≡ true)

-- each edge leads to a node
abbrev pub AreToNodes : Jobs → List (ℕ × ℕ) → Type 0
AreToNodes jobs edges = (a b : ℕ) → Contains edges (a, b) → b < node_count jobs

-- jobs that were made with these edges too; or none, where they have more edges than a plan may have
abbrev pub IsWithEdges : Jobs → List (ℕ × ℕ) → Option Jobs → Type 0
IsWithEdges jobs edges (Some new) = new ≡ with_edges jobs edges
IsWithEdges jobs edges None = edge_limit < edge_count (with_edges jobs edges).plan.nodes
