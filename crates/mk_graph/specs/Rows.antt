-- A graph on numbers, as a list of rows.
use Rattle.std.specs.Prelude.{◌≡◌, ℕ, zero, suc, ◌<◌, List, [], ◌∷◌, ◌++◌, length, get_or, take, IsTrue, nat_eq, Vec}
use Rattle.std.specs.Global.{Global}
use Rattle.mk_name.specs.Names.{has, IsDistinct}
use Rattle.mk_graph.specs.Graph.{EachNeedsNext, IsNode}

-- the prerequisites of a node
abbrev pub row : List (Vec ℕ Global) → ℕ → List ℕ
row [] n = []
row (v ∷ vs) zero = v.items
row (v ∷ vs) (suc n) = row vs n

-- every prerequisite has a row
abbrev pub InRange : List (Vec ℕ Global) → Type 0
InRange graph = (n p : ℕ) → IsTrue (has nat_eq (row graph n) p) → p < length graph

-- each node stands after all that it needs
abbrev pub StandAfterNeeds : (ℕ → List ℕ) → List ℕ → Type 0
StandAfterNeeds needs order = (i p : ℕ) → i < length order → IsTrue (has nat_eq (needs (get_or order i 0)) p) → IsTrue (has nat_eq (take i order) p)

-- distinct nodes, each of which needs the next and the last the first
pub record IsRing (needs : ℕ → List ℕ) (goals ring : List ℕ) : Type 0 where
  pub first : ℕ
  pub others : List ℕ
  pub ring_is : ring ≡ first ∷ others
  pub chain : EachNeedsNext nat_eq needs (ring ++ first ∷ [])
  pub distinct : IsDistinct nat_eq ring
  pub nodes : (n : ℕ) → IsTrue (has nat_eq ring n) → IsNode nat_eq needs goals n
