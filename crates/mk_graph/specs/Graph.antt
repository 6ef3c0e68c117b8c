-- Graphs as functions from a node to what it needs: chains, cycles and the serial order. `same` is a test of equality.
use Rattle.std.specs.Prelude.{◌≡◌, ℕ, zero, suc, ◌<◌, ◌⊎◌, Bool, List, [], ◌∷◌, ◌++◌, IsTrue, length}
use Rattle.std.specs.List.{flat_map, sum_by}
use Rattle.mk_name.specs.Names.{has, firsts, IsDistinct}

-- from a to b by so many edges, each from a node to one that it needs
abbrev pub Leads : {X : Type 0} → (X → X → Bool) → (X → List X) → ℕ → X → X → Type 0
Leads same needs zero a b = a ≡ b
Leads {X} same needs (suc n) a b = (c : X) × Leads same needs n a c × IsTrue (has same (needs c) b)

-- a node of the graph: a goal needs it, at once or by others, or it is a goal
abbrev pub IsNode : {X : Type 0} → (X → X → Bool) → (X → List X) → List X → X → Type 0
IsNode {X} same needs goals n = (goal : X) × (edges : ℕ) × IsTrue (has same goals goal) × Leads same needs edges goal n

-- no node of the graph needs itself, at once or by others
abbrev pub HasNoCycle : {X : Type 0} → (X → X → Bool) → (X → List X) → List X → Type 0
HasNoCycle {X} same needs goals = (n : X) (edges : ℕ) → IsNode same needs goals n → Leads same needs (suc edges) n n → ⊥

-- what is done for a node: all that its prerequisites need, in their order, and then the node
abbrev pub IsTreeOfNeeds : {X : Type 0} → (X → List X) → (X → List X) → X → Type 0
IsTreeOfNeeds needs tree n = tree n ≡ flat_map tree (needs n) ++ n ∷ []

-- the serial order: the trees of the goals one after another, each node kept where it first stands
pub record IsSerialOrder {X : Type 0} (same : X → X → Bool) (needs : X → List X) (goals order : List X) : Type 0 where
  pub tree : X → List X
  pub trees : (n : X) → IsNode same needs goals n → IsTreeOfNeeds needs tree n
  pub order_is : order ≡ firsts same (flat_map tree goals)

-- each of these needs the next
abbrev pub EachNeedsNext : {X : Type 0} → (X → X → Bool) → (X → List X) → List X → Type 0
EachNeedsNext same needs [] = Unit {0}
EachNeedsNext same needs (x ∷ []) = Unit {0}
EachNeedsNext same needs (x ∷ y ∷ ys) = IsTrue (has same (needs x) y) × EachNeedsNext same needs (y ∷ ys)

-- a closed chain of nodes without other repeats, that begins and ends with its least node by the test `upto`
pub record IsCycle {X : Type 0} (same upto : X → X → Bool) (needs : X → List X) (goals cycle : List X) : Type 0 where
  pub first : X
  pub others : List X
  pub closed : cycle ≡ first ∷ others ++ first ∷ []
  pub chain : EachNeedsNext same needs cycle
  pub distinct : IsDistinct same (first ∷ others)
  pub least : (n : X) → IsTrue (has same others n) → IsTrue (upto first n)
  pub node : IsNode same needs goals first

-- these are nodes of the graph, no two the same
pub record AreNodes {X : Type 0} (same : X → X → Bool) (needs : X → List X) (goals nodes : List X) : Type 0 where
  pub distinct : IsDistinct same nodes
  pub each : (n : X) → IsTrue (has same nodes n) → IsNode same needs goals n

-- the edges that lead from these nodes to what they need
abbrev pub count_edges : {X : Type 0} → (X → List X) → List X → ℕ
count_edges needs nodes = sum_by (λ n. length (needs n)) nodes

-- the graph has more than so many nodes or more than so many edges
abbrev pub HasMoreThan : {X : Type 0} → (X → X → Bool) → (X → List X) → List X → ℕ → ℕ → Type 0
HasMoreThan {X} same needs goals nodes edges = (some : List X) × AreNodes same needs goals some × ((nodes < length some) ⊎ (edges < count_edges needs some))
