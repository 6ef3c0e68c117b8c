-- Nodes that fit make a plan.
use Rattle.std.proofs.Common.{ℕ, zero, suc, ◌≡◌, ◌<◌, ◌≤◌, ◌+◌, ◌*◌, ◌||◌, true, false, List, [], ◌∷◌, length, get_or, take, refl, sym, ap, ◌∙◌, subst, inl, inr, arith}
use Rattle.std.specs.Prelude.{IsTrue, nat_eq, nat_lt}
use Rattle.std.specs.List.{list_all, list_any}
use Rattle.std.proofs.lemmas.Bool.{and_parts, ltb-true, eqb-true, or_cases}
use Rattle.std.proofs.lemmas.List.{get_or_default, map_more, take_all}
use Rattle.std.proofs.lemmas.List.Sums.{sum_by-cons}
use Rattle.mk_name.specs.Names.{IsDistinct, Name, has, same_name}
use Rattle.mk_name.proofs.Names.{distinct_push, name_is_exact}
use Rattle.mk_jobs.specs.Plan.{NeedsStandBefore, Node, edge_count, edge_limit, names_of, nobody}
use Rattle.model_tests.specs.Nodes.{AreFit, FitsBehind}

-- of numbers that are all below one, each is
pub all_below : (numbers : List ℕ) (end : ℕ) → list_all (λ p. nat_lt p end) numbers ≡ true → (p : ℕ) → IsTrue (has nat_eq numbers p) → p < end
all_below [] end all p there = absurd (let e : false ≡ true = there in cc)
all_below (x ∷ xs) end all p there =
    let parts = and_parts (nat_lt x end) (list_all (λ k. nat_lt k end) xs) all in
    elim (or_cases (nat_eq x p) (has nat_eq xs p) there) [
      | inl same ↦ subst (λ (n : ℕ). n < end) (eqb-true x p same) (ltb-true x end parts.0)
      | inr further ↦ all_below xs end parts.1 p further
    ]

-- a name among those of nodes
pub named_by : (nodes : List Node) (x : Name) → list_any (λ (node : Node). same_name node.name x) nodes ≡ has same_name (names_of nodes) x
named_by [] x = refl
named_by (node ∷ nodes) x = ap (λ b. same_name node.name x || b) (named_by nodes x)

distinct_to : (nodes : List Node) (n : ℕ) → AreFit nodes → n ≤ length nodes → IsDistinct same_name (names_of (take n nodes))
distinct_to nodes zero fit within = tt
distinct_to nodes (suc n) fit within =
    let rest = distinct_to nodes n fit (omega arith) in
    let next : n + 1 ≡ suc n = omega arith in
    subst (λ (k : ℕ). IsDistinct same_name (names_of (take k nodes))) next
    (subst (IsDistinct same_name) (sym (map_more (λ (d : Node). d.name) nodes n nobody (omega arith)))
    (distinct_push same_name name_is_exact (names_of (take n nodes)) (get_or nodes n nobody).name rest (fit.each n (omega arith)).apart))

pub fit_distinct : (nodes : List Node) → AreFit nodes → IsDistinct same_name (names_of nodes)
fit_distinct nodes fit = subst (λ (ns : List Node). IsDistinct same_name (names_of ns)) (take_all (length nodes) nodes (omega arith)) (distinct_to nodes (length nodes) fit (omega arith))

pub fit_before : (nodes : List Node) → AreFit nodes → NeedsStandBefore nodes
fit_before nodes fit i p d below there =
    (fit.each i below).before p (subst (λ (node : Node). IsTrue (has nat_eq node.prerequisites p)) (get_or_default nodes i d nobody below) there)

edges_few : (nodes : List Node) → ((n : ℕ) → n < length nodes → length (get_or nodes n nobody).prerequisites ≤ 10) → edge_count nodes ≤ 10 * length nodes
edges_few [] few = omega arith
edges_few (node ∷ nodes) few =
    let first = few 0 (omega arith) in
    let rest = edges_few nodes (λ n below. few (suc n) (omega arith)) in
    let whole = sum_by-cons (λ (d : Node). length d.prerequisites) node nodes in
    omega arith

pub fit_edges : (nodes : List Node) → AreFit nodes → edge_count nodes ≤ edge_limit
fit_edges nodes fit =
    let edges = edges_few nodes (λ n below. (fit.each n below).few) in
    let few = fit.few in
    omega arith

-- a node that fits, by what was looked at
pub fits_from : (nodes : List Node) (place : ℕ) (node : Node) → node ≡ get_or nodes place nobody → length node.prerequisites ≤ 10
    → list_all (λ p. nat_lt p place) node.prerequisites ≡ true → list_any (λ (d : Node). same_name d.name node.name) (take place nodes) ≡ false → FitsBehind nodes place
fits_from nodes place node is few all none =
    subst (λ (d : Node). length d.prerequisites ≤ 10 → list_all (λ p. nat_lt p place) d.prerequisites ≡ true
    → list_any (λ (e : Node). same_name e.name d.name) (take place nodes) ≡ false → FitsBehind nodes place) (sym is)
    (λ few all none. record {
      few = few;
      before = all_below (get_or nodes place nobody).prerequisites place all;
      apart = sym (named_by (take place nodes) (get_or nodes place nobody).name) ∙ none;
    }) few all none
