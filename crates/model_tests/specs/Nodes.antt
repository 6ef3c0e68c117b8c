-- For private clauses: nodes that make a plan.
use Rattle.std.specs.Prelude.{ℕ, ◌≡◌, ◌<◌, ◌≤◌, List, IsTrue, false, get_or, length, nat_eq, take}
use Rattle.mk_name.specs.Names.{has, same_name}
use Rattle.mk_jobs.specs.Plan.{Node, names_of, nobody, node_limit}

-- the node at a place needs few nodes, which stand before it, and none of these has its name
pub record FitsBehind (nodes : List Node) (place : ℕ) : Type 0 where
  pub few : length (get_or nodes place nobody).prerequisites ≤ 10
  pub before : (p : ℕ) → IsTrue (has nat_eq (get_or nodes place nobody).prerequisites p) → p < place
  pub apart : has same_name (names_of (take place nodes)) (get_or nodes place nobody).name ≡ false

-- there are few nodes, and each fits
pub record AreFit (nodes : List Node) : Type 0 where
  pub few : length nodes ≤ node_limit
  pub each : (n : ℕ) → n < length nodes → FitsBehind nodes n
