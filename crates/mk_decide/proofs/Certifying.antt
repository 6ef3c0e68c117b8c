-- Chosen chains of all clashing pairs are a certificate.
use Rattle.std.proofs.Common.{ℕ, ◌≡◌, ◌<◌, ◌↔◌, List, [], ◌∷◌, All, Contains, length, map, get_or, sym, subst, inl, inr, arith}
use Rattle.std.specs.List.Sorted.{IsStrictlySortedBy}
use Rattle.std.proofs.lemmas.Bool.{cases_order}
use Rattle.std.proofs.lemmas.List.{get_or-map, length-map}
use Rattle.std.proofs.lemmas.List.Elements.{All-cons, All-head, All-nil}
use Rattle.mk_jobs.specs.Jobs.{Jobs, IsValid, node_count}
use Rattle.mk_jobs.specs.Chains.{IsEdgeByEdge, last_of}
use Rattle.mk_jobs.specs.Shape.{IsWellFormed}
use Rattle.mk_jobs.proofs.JobsLemmas.{clash_live, shape_valid}
use Rattle.mk_jobs.proofs.Reaching.{turned_clash}
use Rattle.mk_decide.specs.Chosen.{IsChosen}
use Rattle.mk_proof.specs.Shapes.{ends_of, pair_cmp}
use Rattle.mk_cert.specs.Certificates.{IsCertificate, IsChain}
use Rattle.mk_decide.specs.Pairs.{ArePairs, OnlyClashing, PairsRise}
use Rattle.mk_decide.specs.Neighbours.{AreNeighbours}
use Rattle.mk_decide.specs.Short.{IsShortCertificate}
use Rattle.mk_decide.specs.Verdicts.{AreChainsOf}
use Rattle.mk_decide.proofs.Chained.{least_edges, only_clashing}

-- the nodes of a chain are below its last
nodes_below : (jobs : Jobs) (a : ℕ) (nodes : List ℕ) (end : ℕ) → IsValid jobs → IsEdgeByEdge jobs a nodes → last_of a nodes < end → All (λ n. n < end) (a ∷ nodes)
nodes_below jobs a [] end valid edges last = All-cons (λ n. n < end) a [] last (All-nil (λ n. n < end))
nodes_below jobs a (b ∷ nodes) end valid edges last =
    let rest = nodes_below jobs b nodes end valid edges.1 last in
    let here : b < end = All-head (λ n. n < end) b nodes rest in
    All-cons (λ n. n < end) a (b ∷ nodes) (let less = valid.smaller b a edges.0 in omega (arith, less, here)) rest

chosen_nodes : (jobs : Jobs) (a b : ℕ) (chain : List ℕ) → IsValid jobs → b < node_count jobs → IsChosen jobs a b chain → All (λ n. n < node_count jobs) chain
chosen_nodes jobs a b chain valid below chosen =
    let edges = least_edges jobs a a (chosen.next ∷ chosen.nodes) chosen.least in
    subst (All (λ n. n < node_count jobs)) (sym chosen.is)
    (nodes_below jobs a (chosen.next ∷ chosen.nodes) (node_count jobs) valid edges (subst (λ (n : ℕ). n < node_count jobs) (sym chosen.ends) below))

chosen_chain : (jobs : Jobs) (a b : ℕ) (chain : List ℕ) → IsChosen jobs a b chain → IsChain jobs chain
chosen_chain jobs a b chain chosen = subst (IsChain jobs) (sym chosen.is) (least_edges jobs a a (chosen.next ∷ chosen.nodes) chosen.least)

-- the last node of each chain is a node
last_node : (jobs : Jobs) (pairs : List (ℕ × ℕ)) (chains : List (List ℕ)) (k : ℕ) (d : List ℕ) → OnlyClashing jobs pairs → AreChainsOf jobs pairs chains → k < length chains
    → (ends_of (get_or chains k d)).1 < node_count jobs
last_node jobs pairs chains k d only of inside =
    let e = ends_of (get_or chains k d) in
    let long = length-map chains ends_of in
    let at : get_or (map ends_of chains) k e ≡ e = get_or-map ends_of chains k d e inside in
    let there : Contains (map ends_of chains) e = (k, omega (arith, inside, long), at) in
    let clash = only e.0 e.1 (subst (λ (ps : List (ℕ × ℕ)). Contains ps e) of.ends there) in
    (clash_live clash.1.1).second_node

pub chains_certify : (jobs : Jobs) (pairs : List (ℕ × ℕ)) (chains : List (List ℕ)) → IsWellFormed jobs → ArePairs jobs pairs → AreChainsOf jobs pairs chains
    → IsCertificate jobs chains
chains_certify jobs pairs chains shape are of = record {
  rise = subst (IsStrictlySortedBy pair_cmp) (sym of.ends) are.rise;
  nodes = λ k d inside. chosen_nodes jobs (ends_of (get_or chains k d)).0 (ends_of (get_or chains k d)).1 (get_or chains k d) (shape_valid shape)
      (last_node jobs pairs chains k d (only_clashing are) of inside) (of.chosen k d inside);
  edges = λ k d inside. chosen_chain jobs (ends_of (get_or chains k d)).0 (ends_of (get_or chains k d)).1 (get_or chains k d) (of.chosen k d inside);
  all = λ a b clash. elim (cases_order a b) [
    | inl same ↦ absurd (clash.1.different same)
    | inr (inl less) ↦ inl (subst (λ (ps : List (ℕ × ℕ)). Contains ps (a, b)) (sym of.ends) ((are.clash a b).1 (less, clash)))
    | inr (inr more) ↦ inr (subst (λ (ps : List (ℕ × ℕ)). Contains ps (b, a)) (sym of.ends) ((are.clash b a).1 (more, turned_clash clash)))
  ];
}

-- neighbours clash
pub near_clashing : {jobs : Jobs} (pairs : List (ℕ × ℕ)) → AreNeighbours jobs pairs → OnlyClashing jobs pairs
near_clashing pairs near a b there = let one = (near a b).0 there in (one.rises, one.clash)

-- the same pairs are those of the same neighbours
pub same_near : {jobs : Jobs} (pairs new : List (ℕ × ℕ)) → AreNeighbours jobs pairs → ((a b : ℕ) → Contains new (a, b) ↔ Contains pairs (a, b)) → AreNeighbours jobs new
same_near pairs new near same a b = (λ there. (near a b).0 ((same a b).0 there), λ one. (same a b).1 ((near a b).1 one))

-- chosen chains of all neighbours are a short certificate
pub chains_short : (jobs : Jobs) (pairs : List (ℕ × ℕ)) (chains : List (List ℕ)) → IsWellFormed jobs → PairsRise pairs → AreNeighbours jobs pairs → AreChainsOf jobs pairs chains
    → IsShortCertificate jobs chains
chains_short jobs pairs chains shape rise near of = record {
  rise = subst (IsStrictlySortedBy pair_cmp) (sym of.ends) rise;
  nodes = λ k d inside. chosen_nodes jobs (ends_of (get_or chains k d)).0 (ends_of (get_or chains k d)).1 (get_or chains k d) (shape_valid shape)
      (last_node jobs pairs chains k d (near_clashing pairs near) of inside) (of.chosen k d inside);
  edges = λ k d inside. chosen_chain jobs (ends_of (get_or chains k d)).0 (ends_of (get_or chains k d)).1 (get_or chains k d) (of.chosen k d inside);
  all = λ a b one. subst (λ (ps : List (ℕ × ℕ)). Contains ps (a, b)) (sym of.ends) ((near a b).1 one);
}
