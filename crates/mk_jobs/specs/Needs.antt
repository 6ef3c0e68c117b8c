-- The prerequisites of nodes, kept in rising order.
use Rattle.std.specs.Prelude.{ℕ, ◌≡◌, ◌<◌, List, length}
use Rattle.std.specs.List.Sorted.{IsNonDecreasing, IsPermutation}
use Rattle.mk_index.specs.Table.{row_of}
use Rattle.mk_jobs.specs.Plan.{Node, node_at}

-- a row has the prerequisites of the node at its place, in order
pub record IsNeedsOf (nodes : List Node) (needs : List (List ℕ)) (n : ℕ) : Type 0 where
  pub rising : IsNonDecreasing (row_of needs n)
  pub all : IsPermutation (node_at nodes n).prerequisites (row_of needs n)

-- there is such a row for each node
pub record AreNeeds (nodes : List Node) (needs : List (List ℕ)) : Type 0 where
  pub count : length needs ≡ length nodes
  pub rows : (n : ℕ) → n < length nodes → IsNeedsOf nodes needs n
