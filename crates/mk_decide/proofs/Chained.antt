-- Chosen chains have the shape of those of a certificate.
use Rattle.std.proofs.Common.{ℕ, zero, suc, ◌≡◌, ◌<◌, ◌≤◌, ◌+◌, ◌-◌, ◌⊎◌, List, [], ◌∷◌, ◌++◌, length, get_or, take, drop, Less, Equal, Greater, refl, sym, ap, subst, ◌∙◌, inl, inr, arith}
use Rattle.std.specs.Cmp.{nat_cmp_is}
use Rattle.std.specs.List.Sorted.{IsStrictlySortedBy}
use Rattle.std.specs.Ordering.{nat_cmp, ordering_then}
use Rattle.std.proofs.lemmas.Bool.{cases_lt, cases_order}
use Rattle.std.proofs.lemmas.Cmp.{nat_cmp_total}
use Rattle.std.proofs.lemmas.List.{get_or_default, take-append-drop, take_more}
use Rattle.std.proofs.lemmas.List.Elements.{Contains-get_or}
use Rattle.std.proofs.lemmas.Map.Keys.{Less-from_sorted, sorted_from_all_adjacent}
use Rattle.mk_jobs.specs.Jobs.{Jobs, Before, Clash, IsValid, node_count}
use Rattle.mk_jobs.specs.Chains.{last_of, IsEdgeByEdge}
use Rattle.mk_jobs.specs.Shape.{IsWellFormed}
use Rattle.mk_jobs.proofs.JobsLemmas.{shape_valid}
use Rattle.mk_decide.specs.Chosen.{AreLeastFrom, IsChosen}
use Rattle.mk_proof.specs.Shapes.{IsShapedChain, ends_of, pair_cmp}
use Rattle.mk_proof.proofs.Risen.{chain_shaped, pair_cmp_total, sorted_front}
use Rattle.mk_decide.specs.Pairs.{ArePairs, OnlyClashing, PairsRise}
use Rattle.mk_decide.specs.Races.{IsRace, IsLeastRace}

pub least_edges : (jobs : Jobs) (a p : ℕ) (nodes : List ℕ) → AreLeastFrom jobs a p nodes → IsEdgeByEdge jobs p nodes
least_edges jobs a p [] least = tt
least_edges jobs a p (x ∷ nodes) least = (least.0.edge, least_edges jobs a x nodes least.1)

-- each node of a chain is below the next
adjacent : (jobs : Jobs) (a : ℕ) (nodes : List ℕ) (d : ℕ) → IsValid jobs → IsEdgeByEdge jobs a nodes → (k : ℕ) → suc k < length (a ∷ nodes)
    → get_or (a ∷ nodes) k d < get_or (a ∷ nodes) (suc k) d
adjacent jobs a [] d valid edges k inside = absurd (omega (arith, inside))
adjacent jobs a (b ∷ nodes) d valid edges zero inside = valid.smaller b a edges.0
adjacent jobs a (b ∷ nodes) d valid edges (suc k) inside = adjacent jobs b nodes d valid edges.1 k (omega (arith, inside))

rising : (jobs : Jobs) (a : ℕ) (nodes : List ℕ) → IsValid jobs → IsEdgeByEdge jobs a nodes → IsStrictlySortedBy nat_cmp (a ∷ nodes)
rising jobs a nodes valid edges = sorted_from_all_adjacent nat_cmp_total (a ∷ nodes) 0 (λ k inside.
    let here : suc k < length (a ∷ nodes) = omega (arith, inside) in
    let less = adjacent jobs a nodes 0 valid edges k here in
    subst (λ (n : ℕ). nat_cmp (get_or (a ∷ nodes) k 0) (get_or (a ∷ nodes) n 0) ≡ Less) (let e : suc k ≡ k + 1 = omega arith in e) (sym (nat_cmp_is _ _ Less less)))

-- the last of a list by its place
last_at : (a : ℕ) (nodes : List ℕ) (d : ℕ) → get_or (a ∷ nodes) (length nodes) d ≡ last_of a nodes
last_at a [] d = refl
last_at a (b ∷ nodes) d = last_at b nodes d

last_is : (a next : ℕ) (nodes : List ℕ) → get_or (a ∷ (next ∷ nodes)) (length (a ∷ (next ∷ nodes)) - 1) 0 ≡ last_of next nodes
last_is a next nodes =
    let place : length (a ∷ (next ∷ nodes)) - 1 ≡ length (next ∷ nodes) = omega arith in
    ap (λ k. get_or (a ∷ (next ∷ nodes)) k 0) place ∙ last_at a (next ∷ nodes) 0

-- the ends of a chosen chain are the nodes that it leads from and to
pub chosen_ends : (jobs : Jobs) (a b : ℕ) (chain : List ℕ) → IsChosen jobs a b chain → ends_of chain ≡ (a, b)
chosen_ends jobs a b chain chosen =
    ap ends_of chosen.is ∙ ap (λ (last : ℕ). (a, last)) (last_is a chosen.next chosen.nodes ∙ chosen.ends)

pub chosen_shaped : (jobs : Jobs) (a b : ℕ) (chain : List ℕ) → IsWellFormed jobs → b < node_count jobs → IsChosen jobs a b chain → IsShapedChain chain
chosen_shaped jobs a b chain shape below chosen =
    let whole = a ∷ (chosen.next ∷ chosen.nodes) in
    let edges = least_edges jobs a a (chosen.next ∷ chosen.nodes) chosen.least in
    let last = last_is a chosen.next chosen.nodes in
    subst IsShapedChain (sym chosen.is) (chain_shaped whole (omega arith) (omega (arith, last, chosen.ends, below, shape.few)) (rising jobs a (chosen.next ∷ chosen.nodes) (shape_valid shape) edges))

-- the pairs so far rise
pub front_rises : (pairs : List (ℕ × ℕ)) (i : ℕ) (a b : ℕ) → i < length pairs → (a, b) ≡ get_or pairs i (a, b) → PairsRise pairs
    → IsStrictlySortedBy pair_cmp (take i pairs ++ (a, b) ∷ [])
front_rises pairs i a b inside is rise =
    let whole : take (i + 1) pairs ++ drop (i + 1) pairs ≡ pairs = take-append-drop (i + 1) pairs in
    let front : IsStrictlySortedBy pair_cmp (take (i + 1) pairs) = sorted_front pair_cmp pair_cmp_total (take (i + 1) pairs) (drop (i + 1) pairs) (subst (IsStrictlySortedBy pair_cmp) (sym whole) rise) in
    subst (IsStrictlySortedBy pair_cmp) (take_more pairs i (a, b) inside ∙ ap (λ (p : ℕ × ℕ). take i pairs ++ p ∷ []) (sym is)) front

-- the pairs behind a place come later
compared_less : (x y : ℕ) → nat_cmp x y ≡ Less → x < y
compared_less x y is = elim (cases_order x y) [
  | inl same ↦ let e : Equal ≡ nat_cmp x y = nat_cmp_is x y Equal same in cc
  | inr (inl less) ↦ less
  | inr (inr more) ↦ let e : Greater ≡ nat_cmp x y = nat_cmp_is x y Greater more in cc
]

split_then : (x y u v : ℕ) → ordering_then (nat_cmp x y) (nat_cmp u v) ≡ Less → (x < y) ⊎ ((x ≡ y) × (u ≤ v))
split_then x y u v is = elim (cases_order x y) [
  | inl same ↦
      let first : Equal ≡ nat_cmp x y = nat_cmp_is x y Equal same in
      let second : nat_cmp u v ≡ Less = ap (λ o. ordering_then o (nat_cmp u v)) first ∙ is in
      let less = compared_less u v second in
      inr (same, omega (arith, less))
  | inr (inl less) ↦ inl less
  | inr (inr more) ↦ let first : Greater ≡ nat_cmp x y = nat_cmp_is x y Greater more in let no : Greater ≡ Less = ap (λ o. ordering_then o (nat_cmp u v)) first ∙ is in cc
]

pub later_pair : (pairs : List (ℕ × ℕ)) (i k : ℕ) (d : ℕ × ℕ) → PairsRise pairs → i ≤ k → k < length pairs
    → ((get_or pairs i d).0 < (get_or pairs k d).0) ⊎ (((get_or pairs i d).0 ≡ (get_or pairs k d).0) × ((get_or pairs i d).1 ≤ (get_or pairs k d).1))
later_pair pairs i k d rise from inside = elim (cases_lt i k) [
  | inl less ↦ split_then _ _ _ _ (Less-from_sorted pair_cmp pairs i k d rise less inside)
  | inr past ↦ let same : i ≡ k = omega (arith, from, past) in inr (ap (λ n. (get_or pairs n d).0) same, let e = ap (λ n. (get_or pairs n d).1) same in omega (arith, e))
]

-- the first pair that is not in order is the least race
pub first_is_least : (jobs : Jobs) (pairs : List (ℕ × ℕ)) (i a b : ℕ) → ArePairs jobs pairs → i < length pairs → (a, b) ≡ get_or pairs i (a, b) → IsRace jobs a b
    → ((k : ℕ) → k < i → (d : ℕ × ℕ) → Before jobs (get_or pairs k d).0 (get_or pairs k d).1) → IsLeastRace jobs a b
first_is_least jobs pairs i a b are inside is race ordered = record {
  race = race;
  least = λ c d other.
      let there = (are.clash c d).1 (other.rises, other.clash) in
      let at : get_or pairs there.0 (c, d) ≡ (c, d) = there.2 in
      elim (cases_lt there.0 i) [
        | inl before ↦ absurd (other.apart (inl (subst (λ (p : ℕ × ℕ). Before jobs p.0 p.1) at (ordered there.0 before (c, d)))))
        | inr later ↦
            let here : get_or pairs i (c, d) ≡ (a, b) = get_or_default pairs i (c, d) (a, b) inside ∙ sym is in
            subst (λ (p : ℕ × ℕ). (p.0 < c) ⊎ ((p.0 ≡ c) × (p.1 ≤ d))) here
            (subst (λ (p : ℕ × ℕ). ((get_or pairs i (c, d)).0 < p.0) ⊎ (((get_or pairs i (c, d)).0 ≡ p.0) × ((get_or pairs i (c, d)).1 ≤ p.1))) at
            (later_pair pairs i there.0 (c, d) are.rise later there.1))
      ];
}

-- each pair is one of nodes that clash, the smaller first
pub only_clashes : (jobs : Jobs) (pairs : List (ℕ × ℕ)) (i : ℕ) → OnlyClashing jobs pairs → i < length pairs
    → ((get_or pairs i (0, 0)).0 < (get_or pairs i (0, 0)).1) × Clash jobs (get_or pairs i (0, 0)).0 (get_or pairs i (0, 0)).1
only_clashes jobs pairs i only inside = only (get_or pairs i (0, 0)).0 (get_or pairs i (0, 0)).1 (Contains-get_or pairs i (0, 0) inside)

-- all pairs that clash clash
pub only_clashing : {jobs : Jobs} {pairs : List (ℕ × ℕ)} → ArePairs jobs pairs → OnlyClashing jobs pairs
only_clashing are a b there = (are.clash a b).0 there

pub pair_clashes : (jobs : Jobs) (pairs : List (ℕ × ℕ)) (i : ℕ) → ArePairs jobs pairs → i < length pairs
    → ((get_or pairs i (0, 0)).0 < (get_or pairs i (0, 0)).1) × Clash jobs (get_or pairs i (0, 0)).0 (get_or pairs i (0, 0)).1
pair_clashes jobs pairs i are = only_clashes jobs pairs i (only_clashing are)
