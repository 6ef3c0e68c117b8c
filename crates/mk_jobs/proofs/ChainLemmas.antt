-- Chains of edges as lists of nodes.
use Rattle.std.proofs.Common.{ℕ, List, [], ◌∷◌, refl, sym, subst}
use Rattle.mk_jobs.specs.Jobs.{Jobs, IsPrerequisite, Before, edge, further}
use Rattle.mk_jobs.specs.Chains.{last_of, IsEdgeByEdge, ChainTo, ChainIsBefore, BeforeHasChain}

-- a chain goes on edge by edge from any node that a is before
before_on : (jobs : Jobs) (a b : ℕ) (nodes : List ℕ) → Before jobs a b → IsEdgeByEdge jobs b nodes → Before jobs a (last_of b nodes)
before_on jobs a b [] before edges = before
before_on jobs a b (c ∷ nodes) before edges = before_on jobs a c nodes (further before edges.0) edges.1

pub chain_is_before : ChainIsBefore
chain_is_before jobs a next nodes edges = before_on jobs a next nodes (edge edges.0) edges.1

-- a chain with one edge more at its end
longer : (jobs : Jobs) (a next : ℕ) (nodes : List ℕ) (c : ℕ) → IsEdgeByEdge jobs a (next ∷ nodes) → IsPrerequisite jobs (last_of next nodes) c → ChainTo jobs a c
longer jobs a next [] c edges step = record { next = next; nodes = c ∷ []; edges = (edges.0, (step, tt)); ends = refl }
longer jobs a next (b ∷ nodes) c edges step =
    let rest = longer jobs next b nodes c edges.1 step in
    record { next = next; nodes = rest.next ∷ rest.nodes; edges = (edges.0, rest.edges); ends = rest.ends }

pub before_has_chain : BeforeHasChain
before_has_chain jobs a b (edge step) = record { next = b; nodes = []; edges = (step, tt); ends = refl }
before_has_chain jobs a c (further {b = b} before step) =
    let chain = before_has_chain jobs a b before in
    longer jobs a chain.next chain.nodes c chain.edges (subst (λ n. IsPrerequisite jobs n c) (sym chain.ends) step)
