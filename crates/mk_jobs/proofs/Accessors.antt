-- The queries of a plan, as the jobs on it see them.
use Rattle.std.proofs.Common.{ℕ, zero, suc, ◌≡◌, ◌<◌, List, [], ◌∷◌, Contains, length, get_or, Vec, sym, ap, ◌∙◌, subst, refl, Some, None, Option, inl, inr, arith}
use Rattle.std.specs.Prelude.{map, nat_eq, slice_get, unwrap_or, IsTrue}
use Rattle.std.specs.Global.{Global}
use Rattle.std.proofs.lemmas.Bool.{both_ways, cases_lt, eq-eqb, or_left, or_right}
use Rattle.std.proofs.lemmas.Option.{slice_get_past, unwrap_or-slice_get}
use Rattle.std.proofs.lemmas.List.{get_or-map, length-map}
use Rattle.mk_name.specs.Names.{IsDistinct, Name, has, same_name}
use Rattle.mk_path.specs.declared.path.Path.{Path}
use Rattle.mk_jobs.specs.Plan as plans
use Rattle.mk_jobs.specs.Plan.{NeedsStandBefore, Plan, Node, names_of, nobody}
use Rattle.mk_jobs.specs.Numbered.{name_at, number_of}
use Rattle.mk_jobs.proofs.Numberings.{number_at, number_some, number_none, has_at}
use Rattle.mk_jobs.specs.Jobs.{Jobs, node_at, node_count, name_of, prerequisites_of, IsNumberOf, IsPrerequisite, is_live, has_recipe, is_phony, is_listed}
use Rattle.mk_jobs.specs.Shape.{IsWellFormed}
use Rattle.mk_jobs.specs.Recipes.{is_live_node}

-- a number of a node of the jobs is one of the plan
pub plan_has : (plan : Plan) (jobs : Jobs) (n : ℕ) → plan ≡ jobs.plan → n < node_count jobs → n < length plan.nodes
unfolding node_count
plan_has plan jobs n same below = subst (λ (p : Plan). n < length p.nodes) (sym same) below

-- the node of a number
pub plan_node : (plan : Plan) (jobs : Jobs) (n : ℕ) → plan ≡ jobs.plan → plans.node_at plan.nodes n ≡ node_at jobs n
plan_node plan jobs n same = ap (λ (p : Plan). plans.node_at p.nodes n) same

-- the name of a number
pub name_there : (jobs : Jobs) (n : ℕ) → n < node_count jobs → name_at (names_of jobs.plan.nodes) n ≡ name_of jobs n
unfolding node_count name_of
name_there jobs n below =
    get_or-map (λ (d : Node). d.name) jobs.plan.nodes n nobody [] below ∙ ap (λ (d : Node). d.name) (sym (unwrap_or-slice_get jobs.plan.nodes n nobody))

-- how many names there are
pub name_count : (jobs : Jobs) → length (names_of jobs.plan.nodes) ≡ node_count jobs
unfolding node_count
name_count jobs = length-map jobs.plan.nodes (λ (d : Node). d.name)

-- a number is that of the node with its name
pub number_is : (jobs : Jobs) (x : Name) (o : Option ℕ) → o ≡ number_of (names_of jobs.plan.nodes) x → IsNumberOf jobs x o
number_is jobs x (Some n) e =
    let found = number_some (names_of jobs.plan.nodes) x n (sym e) in
    let below : n < node_count jobs = omega (arith, found.0, name_count jobs) in
    (below, sym (name_there jobs n below) ∙ found.1)
number_is jobs x None e = λ n below same.
    let absent = number_none (names_of jobs.plan.nodes) x (sym e) in
    let here = has_at (names_of jobs.plan.nodes) n (omega (arith, below, name_count jobs)) in
    both_ways _ absent (subst (λ (y : Name). IsTrue (has same_name (names_of jobs.plan.nodes) y)) (name_there jobs n below ∙ same) here)

found_is : (jobs : Jobs) (n : ℕ) (o : Option ℕ) → IsWellFormed jobs → n < node_count jobs → IsNumberOf jobs (name_of jobs n) o → o ≡ Some n
found_is jobs n (Some m) shape below found = ap Some (shape.distinct m n found.0 below found.1)
found_is jobs n None shape below absent = absurd (absent n below refl)

-- the name of a node gives its number back
pub number_found : (jobs : Jobs) (n : ℕ) → IsWellFormed jobs → n < node_count jobs → number_of (names_of jobs.plan.nodes) (name_of jobs n) ≡ Some n
number_found jobs n shape below = found_is jobs n _ shape below (number_is jobs (name_of jobs n) _ refl)

-- a node is live by what stands of it in the plan
pub live_is : (jobs : Jobs) (n : ℕ) → is_live_node (node_at jobs n) ≡ is_live jobs n
unfolding has_recipe is_phony is_listed prerequisites_of
live_is jobs n = refl

-- the names in the row of a number
pub row_there : (rows : List (Vec Path Global)) (n : ℕ) (row : Vec Path Global) → n < length rows → row ≡ get_or rows n row
    → row.items ≡ unwrap_or (slice_get (map (λ (r : Vec Path Global). r.items) rows) n) []
row_there rows n row below is =
    ap (λ (r : Vec Path Global). r.items) is
    ∙ sym (get_or-map (λ (r : Vec Path Global). r.items) rows n row [] below)
    ∙ sym (unwrap_or-slice_get (map (λ (r : Vec Path Global). r.items) rows) n [])

-- there is a row for each number
pub row_has : (rows : List (Vec Path Global)) (jobs : Jobs) (n : ℕ) → length (map (λ (r : Vec Path Global). r.items) rows) ≡ node_count jobs
    → n < node_count jobs → n < length rows
row_has rows jobs n all below = omega (arith, all, below, length-map rows (λ (r : Vec Path Global). r.items))

-- where no name stands twice, two nodes of one name are one
pub same_place : (jobs : Jobs) → IsDistinct same_name (names_of jobs.plan.nodes) → (n m : ℕ) → n < node_count jobs → m < node_count jobs
    → name_of jobs n ≡ name_of jobs m → n ≡ m
same_place jobs distinct n m n_below m_below same =
    let names = names_of jobs.plan.nodes in
    let n_there : n < length names = omega (arith, n_below, name_count jobs) in
    let m_there : m < length names = omega (arith, m_below, name_count jobs) in
    let found : Some n ≡ Some m =
    sym (number_at names n distinct n_there)
    ∙ ap (number_of names) (name_there jobs n n_below ∙ same ∙ sym (name_there jobs m m_below))
    ∙ number_at names m distinct m_there in
    cc

contains_has : (xs : List ℕ) (x : ℕ) → Contains xs x → IsTrue (has nat_eq xs x)
contains_has [] x (k, below, is) = absurd (omega (arith, below))
contains_has (y ∷ ys) x (zero, below, is) = or_left (nat_eq y x) _ (eq-eqb y x is)
contains_has (y ∷ ys) x (suc k, below, is) = or_right (nat_eq y x) _ (contains_has ys x (k, omega (arith, below), is))

-- where each node stands behind what it needs, prerequisites have smaller numbers
pub needs_smaller : (jobs : Jobs) → NeedsStandBefore jobs.plan.nodes → (n p : ℕ) → IsPrerequisite jobs p n → p < n
unfolding prerequisites_of
needs_smaller jobs rising n p needs = elim (cases_lt n (length jobs.plan.nodes)) [
  | inl below ↦ rising n p nobody below (contains_has _ p (subst (λ (d : Node). Contains d.prerequisites p) (unwrap_or-slice_get jobs.plan.nodes n nobody) needs))
  | inr past ↦
      let there : Contains nobody.prerequisites p =
      subst (λ (d : Node). Contains d.prerequisites p) (ap (λ o. unwrap_or o nobody) (slice_get_past jobs.plan.nodes n past)) needs in
      absurd (omega (arith, there.1))
]
