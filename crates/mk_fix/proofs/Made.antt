-- Jobs that are made with edges added.
use Rattle.std.proofs.Common.{ℕ, zero, suc, ◌≡◌, ◌<◌, ◌≤◌, ◌+◌, ◌⊎◌, ◌↔◌, Bool, true, false, List, [], ◌∷◌, ◌++◌, Contains, append_assoc, arith, get_or, length, map, set, take, refl, sym, ap, subst, ◌∙◌, inl, inr, None, Option, Some, Vec}
use Rattle.std.specs.Global.{Global}
use Rattle.std.specs.Prelude.{◌==◌, IsTrue, nat_eq, if◌then◌else◌}
use Rattle.std.proofs.lemmas.Bool.{both_ways, cases_eq, cases_lt, cond-false, cond-true, cond_both, eq-eqb, eqb-true, or_cases}
use Rattle.std.proofs.lemmas.List.{append-nil, get_or_default, get_or-set_other, get_or-set_same, map_push, take_more}
use Rattle.std.proofs.lemmas.Option.{unwrap_or-slice_get}
use Rattle.mk_name.specs.Names.{IsDistinct, Name, has, same_name}
use Rattle.mk_path.specs.declared.path.Path.{Path}
use Rattle.mk_jobs.specs.Jobs.{Clash, Jobs, IsPrerequisite, node_count, prerequisites_of}
use Rattle.mk_jobs.specs.Numbered.{name_at, number_of}
use Rattle.mk_jobs.specs.Plan.{NeedsStandBefore, Node, edge_count, edge_limit, names_of, node_at, node_limit, nobody}
use Rattle.mk_jobs.specs.Shape.{IsWellFormed}
use Rattle.mk_jobs.proofs.Accessors.{name_count, name_there}
use Rattle.mk_jobs.proofs.JobsLemmas.{clash_live, live_node}
use Rattle.mk_jobs.proofs.Numberings.{number_none, number_some}
use Rattle.mk_decide.specs.Pairs.{ArePairs}
use Rattle.mk_fix.specs.Added.{AreRisingToLive, AreToNodes, more_needs, sources_to, with_edges}
use Rattle.mk_fix.specs.Musts.{AreFirsts}
use Rattle.mk_fix.proofs.Adding.{here, shape_stays, source_in, source_out, there}

-- the sources of edges, and of more
sources_append : (edges more : List (ℕ × ℕ)) (n : ℕ) → sources_to (edges ++ more) n ≡ sources_to edges n ++ sources_to more n
sources_append [] more n = refl
sources_append (e ∷ edges) more n = cond_both (e.1 == n) (e.0 ∷ sources_to edges n) (sources_to edges n)
    (λ (xs : List ℕ). (if e.1 == n then e.0 ∷ sources_to (edges ++ more) n else sources_to (edges ++ more) n) ≡ xs ++ sources_to more n)
    (λ same. cond-true (e.1 == n) _ _ same ∙ ap (λ xs. e.0 ∷ xs) (sources_append edges more n))
    (λ other. cond-false (e.1 == n) _ _ other ∙ sources_append edges more n)

-- the rows of sources, where one edge more leads to b
pub sources_more : (rows : List (List ℕ)) (edges : List (ℕ × ℕ)) (e : ℕ × ℕ) → e.1 < length rows → ((n : ℕ) → get_or rows n [] ≡ sources_to edges n)
    → (n : ℕ) → get_or (set rows e.1 (get_or rows e.1 [] ++ e.0 ∷ [])) n [] ≡ sources_to (edges ++ e ∷ []) n
sources_more rows edges e below are n = elim (cases_eq n e.1) [
  | inl same ↦
      ap (λ k. get_or (set rows e.1 (get_or rows e.1 [] ++ e.0 ∷ [])) k []) same
      ∙ get_or-set_same rows e.1 (get_or rows e.1 [] ++ e.0 ∷ []) [] below
      ∙ ap (λ k. get_or rows k [] ++ e.0 ∷ []) (sym same)
      ∙ ap (λ (row : List ℕ). row ++ e.0 ∷ []) (are n)
      ∙ ap (λ (row : List ℕ). sources_to edges n ++ row) (sym (cond-true (e.1 == n) (e.0 ∷ []) [] (eq-eqb e.1 n (sym same))))
      ∙ sym (sources_append edges (e ∷ []) n)
  | inr other ↦
      get_or-set_other rows e.1 n (get_or rows e.1 [] ++ e.0 ∷ []) [] other
      ∙ are n
      ∙ sym (append-nil (sources_to edges n))
      ∙ cond_both (e.1 == n) (e.0 ∷ []) [] (λ (row : List ℕ). sources_to edges n ++ [] ≡ sources_to edges n ++ row) (λ same. absurd (other (sym (eqb-true e.1 n same)))) (λ no. refl)
      ∙ sym (sources_append edges (e ∷ []) n)
]

-- the sources by all pairs that clash are the smaller nodes that clash
pub firsts_are : (jobs : Jobs) (pairs : List (ℕ × ℕ)) (b : ℕ) → ArePairs jobs pairs → AreFirsts jobs (sources_to pairs b) b
firsts_are jobs pairs b are a = (λ h. (are.clash a b).0 (source_out pairs a b h), λ clash. source_in pairs a b ((are.clash a b).1 clash))

pub pairs_to_nodes : (jobs : Jobs) (pairs : List (ℕ × ℕ)) → ArePairs jobs pairs → AreToNodes jobs pairs
pairs_to_nodes jobs pairs are a b h = (clash_live ((are.clash a b).0 h).1.1).second_node

pub live_to_nodes : (jobs : Jobs) (edges : List (ℕ × ℕ)) → AreRisingToLive jobs edges → AreToNodes jobs edges
live_to_nodes jobs edges rising a b h = live_node jobs b (rising a b h).1

-- a node with the edges to it
pub node_more : (edges : List (ℕ × ℕ)) (k : ℕ) (nodes : List Node) (n : ℕ) → n < length nodes
    → get_or (more_needs edges k nodes) n nobody ≡ record (node_at nodes n) { prerequisites = (node_at nodes n).prerequisites ++ sources_to edges (k + n) }
node_more edges k [] n below = absurd (omega (arith, below))
node_more edges k (node ∷ nodes) zero below =
    ap (λ m. record node { prerequisites = node.prerequisites ++ sources_to edges m }) (let e : k ≡ k + 0 = omega arith in e)
node_more edges k (node ∷ nodes) (suc n) below =
    node_more edges (suc k) nodes n (omega (arith, below))
    ∙ ap (λ m. record (node_at nodes n) { prerequisites = (node_at nodes n).prerequisites ++ sources_to edges m }) (let e : suc k + n ≡ k + suc n = omega arith in e)

unnumbered : (names : List Name) (x : Name) (o : Option ℕ) → number_of names x ≡ o → ((k : ℕ) → k < length names → name_at names k ≡ x → ⊥) → has same_name names x ≡ false
unnumbered names x None is none = number_none names x is
unnumbered names x (Some k) is none = absurd (let found = number_some names x k is in none k found.0 found.1)

-- names that differ by their places are distinct
distinct_names : (names : List Name) → ((i j : ℕ) → i < length names → j < length names → name_at names i ≡ name_at names j → i ≡ j) → IsDistinct same_name names
distinct_names [] differ = tt
distinct_names (x ∷ names) differ = (
  unnumbered names x _ refl (λ k below same. absurd (let e : suc k ≡ 0 = differ (suc k) 0 (omega (arith, below)) (omega arith) same in omega (arith, e))),
  distinct_names names (λ i j first second same. let e : suc i ≡ suc j = differ (suc i) (suc j) (omega (arith, first)) (omega (arith, second)) same in omega (arith, e)),
)

-- so the names of well-formed jobs are
pub jobs_distinct : (jobs : Jobs) → IsWellFormed jobs → IsDistinct same_name (names_of jobs.plan.nodes)
jobs_distinct jobs shape = distinct_names (names_of jobs.plan.nodes) (λ i j first second same.
    let i_below : i < node_count jobs = omega (arith, first, name_count jobs) in
    let j_below : j < node_count jobs = omega (arith, second, name_count jobs) in
    shape.distinct i j i_below j_below (sym (name_there jobs i i_below) ∙ same ∙ name_there jobs j j_below))

has_contains : (xs : List ℕ) (p : ℕ) → IsTrue (has nat_eq xs p) → Contains xs p
has_contains [] p h = absurd (let e : false ≡ true = h in cc)
has_contains (x ∷ xs) p h = elim (or_cases (nat_eq x p) (has nat_eq xs p) h) [
  | inl same ↦ subst (Contains (x ∷ xs)) (eqb-true x p same) (here x xs)
  | inr further ↦ there x xs p (has_contains xs p further)
]

-- and each of their nodes stands behind what it needs
pub jobs_before : (jobs : Jobs) → IsWellFormed jobs → NeedsStandBefore jobs.plan.nodes
unfolding prerequisites_of
jobs_before jobs shape i p d below h =
    shape.smaller i p (has_contains _ p
    (subst (λ (node : Node). IsTrue (has nat_eq node.prerequisites p)) (get_or_default jobs.plan.nodes i d nobody below ∙ sym (unwrap_or-slice_get jobs.plan.nodes i nobody)) h))

-- and they are few
pub jobs_few : (jobs : Jobs) → IsWellFormed jobs → length jobs.plan.nodes ≤ node_limit
unfolding node_count
jobs_few jobs shape = shape.few

few_edges : (many : Bool) (count : ℕ) → (IsTrue many ↔ (edge_limit < count)) → many ≡ false → count ≤ edge_limit
few_edges many count is fails = elim (cases_lt edge_limit count) [ inl over ↦ absurd (both_ways _ fails (is.1 over)) | inr within ↦ within ]

-- with edges that were found to be few the jobs stay well-formed
pub made_shape : (jobs : Jobs) (edges : List (ℕ × ℕ)) (nodes seen : List Node) (many : Bool) → AreRisingToLive jobs edges → IsWellFormed jobs
    → nodes ≡ more_needs edges 0 jobs.plan.nodes → seen ≡ nodes → (IsTrue many ↔ (edge_limit < edge_count seen)) → many ≡ false → IsWellFormed (with_edges jobs edges)
made_shape jobs edges nodes seen many rising shape are same is fails =
    shape_stays jobs edges rising shape (subst (λ (ns : List Node). edge_count ns ≤ edge_limit) (same ∙ are) (few_edges many (edge_count seen) is fails))

-- one row of copies more
pub copy_more : (rows new : List (Vec Path Global)) (all : List (List Path)) (n : ℕ) (row : Vec Path Global) → n < length all
    → map (λ (r : Vec Path Global). r.items) rows ≡ take n all → row.items ≡ get_or all n [] → new ≡ rows ++ row ∷ []
    → map (λ (r : Vec Path Global). r.items) new ≡ take (n + 1) all
copy_more rows new all n row below are is pushed =
    ap (map (λ (r : Vec Path Global). r.items)) pushed
    ∙ map_push (λ (r : Vec Path Global). r.items) rows row
    ∙ ap (λ (rs : List (List Path)). rs ++ row.items ∷ []) are
    ∙ ap (λ (r : List Path). take n all ++ r ∷ []) is
    ∙ sym (take_more all n [] below)
