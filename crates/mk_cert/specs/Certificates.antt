-- Certificates: chains of edges that put in order whatever clashes.
use Rattle.std.specs.Prelude.{ℕ, ◌<◌, ◌⊎◌, List, [], ◌∷◌, map, Contains}
use Rattle.std.specs.List.{All}
use Rattle.std.specs.List.Sorted.{IsStrictlySortedBy}
use Rattle.mk_jobs.specs.Jobs.{Jobs, Clash, node_count}
use Rattle.mk_jobs.specs.Chains.{IsEdgeByEdge}
use Rattle.mk_proof.specs.Shapes.{ends_of, pair_cmp}

-- two or more nodes, and an edge from each to the next
abbrev pub IsChain : Jobs → List ℕ → Type 0
IsChain jobs [] = ⊥
IsChain jobs (a ∷ []) = ⊥
IsChain jobs (a ∷ next ∷ nodes) = IsEdgeByEdge jobs a (next ∷ nodes)

-- a pair stands, in this order, at the ends of one of the chains
abbrev pub IsAtEnds : List (List ℕ) → ℕ → ℕ → Type 0
IsAtEnds chains a b = Contains (map ends_of chains) (a, b)

-- these chains are a certificate: they rise by their ends; their numbers are nodes; each goes along edges; and any two nodes
-- that clash are the ends of one, in one order or the other. There may be chains between other nodes too
pub record IsCertificate (jobs : Jobs) (chains : List (List ℕ)) : Type 0 where
  pub rise : IsStrictlySortedBy pair_cmp (map ends_of chains)
  pub nodes : All (All (λ n. n < node_count jobs)) chains
  pub edges : All (IsChain jobs) chains
  pub all : (a b : ℕ) → Clash jobs a b → IsAtEnds chains a b ⊎ IsAtEnds chains b a
