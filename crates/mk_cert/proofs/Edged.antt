-- Chains edge by edge, place by place.
use Rattle.std.proofs.Common.{ℕ, zero, suc, ◌≡◌, ◌<◌, ◌≤◌, ◌-◌, List, [], ◌∷◌, length, get_or, subst, arith}
use Rattle.std.specs.List.{All}
use Rattle.std.proofs.lemmas.List.{get_or_default}
use Rattle.mk_jobs.specs.Chains.{IsEdgeByEdge}
use Rattle.mk_jobs.specs.Jobs.{Jobs, IsPrerequisite, IsValid, node_count}
use Rattle.mk_cert.specs.Certificates.{IsChain}

-- the number at a place is a node, which needs the number before it
pub record IsStep (jobs : Jobs) (chain : List ℕ) (k : ℕ) : Type 0 where
  pub node : get_or chain k 0 < node_count jobs
  pub edge : IsPrerequisite jobs (get_or chain (k - 1) 0) (get_or chain k 0)

-- a chain of nodes, edge by edge
abbrev pub IsGood : Jobs → List ℕ → Type 0
IsGood jobs chain = All (λ n. n < node_count jobs) chain × IsChain jobs chain

edges_from : (jobs : Jobs) (a : ℕ) (nodes : List ℕ)
    → ((k : ℕ) → k < length nodes → IsPrerequisite jobs (get_or (a ∷ nodes) k 0) (get_or nodes k 0)) → IsEdgeByEdge jobs a nodes
edges_from jobs a [] all = tt
edges_from jobs a (b ∷ nodes) all = (all 0 (omega arith), edges_from jobs b nodes (λ k inside. all (suc k) (omega (arith, inside))))

edges_at : (jobs : Jobs) (a : ℕ) (nodes : List ℕ) (k : ℕ) → IsEdgeByEdge jobs a nodes → k < length nodes
    → IsPrerequisite jobs (get_or (a ∷ nodes) k 0) (get_or nodes k 0)
edges_at jobs a [] k edges inside = absurd (omega arith)
edges_at jobs a (b ∷ nodes) zero edges inside = edges.0
edges_at jobs a (b ∷ nodes) (suc k) edges inside = edges_at jobs b nodes k edges.1 (omega (arith, inside))

-- the step at the place behind k
step_behind : (jobs : Jobs) (chain : List ℕ) (k : ℕ) → IsStep jobs chain (suc k) → IsPrerequisite jobs (get_or chain k 0) (get_or chain (suc k) 0)
step_behind jobs chain k step =
    let place : suc k - 1 ≡ k = omega arith in
    subst (λ i. IsPrerequisite jobs (get_or chain i 0) (get_or chain (suc k) 0)) place step.edge

chain_from : (jobs : Jobs) (chain : List ℕ) → 2 ≤ length chain → ((k : ℕ) → 0 < k → k < length chain → IsStep jobs chain k) → IsChain jobs chain
chain_from jobs [] long steps = absurd (omega arith)
chain_from jobs (a ∷ []) long steps = absurd (omega arith)
chain_from jobs (a ∷ next ∷ nodes) long steps =
    edges_from jobs a (next ∷ nodes) (λ k inside. step_behind jobs (a ∷ next ∷ nodes) k (steps (suc k) (omega arith) (omega (arith, inside))))

node_from : (jobs : Jobs) (chain : List ℕ) (k : ℕ) → IsValid jobs → 2 ≤ length chain → ((k : ℕ) → 0 < k → k < length chain → IsStep jobs chain k)
    → k < length chain → get_or chain k 0 < node_count jobs
node_from jobs chain zero valid long steps inside =
    let step = steps 1 (omega arith) (omega (arith, long)) in
    let less = valid.smaller (get_or chain 1 0) (get_or chain 0 0) (step_behind jobs chain 0 step) in
    omega (arith, less, step.node)
node_from jobs chain (suc k) valid long steps inside = (steps (suc k) (omega arith) inside).node

-- steps at all places make a chain
pub good_from : (jobs : Jobs) (chain : List ℕ) → IsValid jobs → 2 ≤ length chain → ((k : ℕ) → 0 < k → k < length chain → IsStep jobs chain k) → IsGood jobs chain
good_from jobs chain valid long steps = (
  λ k d inside. subst (λ n. n < node_count jobs) (get_or_default chain k 0 d inside) (node_from jobs chain k valid long steps inside),
  chain_from jobs chain long steps,
)

edge_at : (jobs : Jobs) (chain : List ℕ) (k : ℕ) → IsChain jobs chain → 0 < k → k < length chain → IsPrerequisite jobs (get_or chain (k - 1) 0) (get_or chain k 0)
edge_at jobs [] k chain some inside = absurd (omega arith)
edge_at jobs (a ∷ []) k chain some inside = absurd (omega arith)
edge_at jobs (a ∷ next ∷ nodes) zero chain some inside = absurd (omega arith)
edge_at jobs (a ∷ next ∷ nodes) (suc k) chain some inside =
    let place : k ≡ suc k - 1 = omega arith in
    subst (λ i. IsPrerequisite jobs (get_or (a ∷ next ∷ nodes) i 0) (get_or (next ∷ nodes) k 0)) place
    (edges_at jobs a (next ∷ nodes) k chain (omega (arith, inside)))

-- and a chain has a step at each place
pub step_at : (jobs : Jobs) (chain : List ℕ) (k : ℕ) → IsGood jobs chain → 0 < k → k < length chain → IsStep jobs chain k
step_at jobs chain k good some inside = record { node = good.0 k 0 inside; edge = edge_at jobs chain k good.1 some inside }
