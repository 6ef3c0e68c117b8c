-- Chains of edges as lists of nodes.
use Rattle.std.specs.Prelude.{ℕ, ◌≡◌, List, [], ◌∷◌}
use Rattle.mk_jobs.specs.Jobs.{Jobs, IsPrerequisite, Before}

-- the last of a node and those after it
abbrev pub last_of : ℕ → List ℕ → ℕ
last_of a [] = a
last_of a (b ∷ nodes) = last_of b nodes

-- edge by edge: each node is a prerequisite of the next
abbrev pub IsEdgeByEdge : Jobs → ℕ → List ℕ → Type 0
IsEdgeByEdge jobs a [] = Unit {0}
IsEdgeByEdge jobs a (b ∷ nodes) = IsPrerequisite jobs a b × IsEdgeByEdge jobs b nodes

-- a is before the last node of each chain of two or more nodes that begins with a and goes edge by edge
abbrev pub ChainIsBefore : Type 0
ChainIsBefore =
    (jobs : Jobs) (a next : ℕ) (nodes : List ℕ) → IsEdgeByEdge jobs a (next ∷ nodes) → Before jobs a (last_of next nodes)

-- a chain of two or more nodes from a to b, edge by edge
pub record ChainTo (jobs : Jobs) (a b : ℕ) : Type 0 where
  pub next : ℕ
  pub nodes : List ℕ
  pub edges : IsEdgeByEdge jobs a (next ∷ nodes)
  pub ends : last_of next nodes ≡ b

-- and to each node that a is before there is such a chain
abbrev pub BeforeHasChain : Type 0
BeforeHasChain = (jobs : Jobs) (a b : ℕ) → Before jobs a b → ChainTo jobs a b
