-- From the nodes of a plan to jobs: the first fault, or rows that are well-formed.
use Rattle.std.proofs.Common.{◌≡◌, ℕ, ◌+◌, ◌<◌, ◌≤◌, true, false, not, ◌&&◌, List, [], ◌∷◌, ◌++◌, Option, None, Some, length, get_or, take, drop, slice_get, sym, ap, ap₂, subst, ◌∙◌, refl, arith, map, inl, inr, Vec}
use Rattle.std.specs.Prelude.{Result, Ok, Err, find, unwrap_or, if◌then◌else◌}
use Rattle.std.specs.List.{cons_option, enumerate_from, filter_map}
use Rattle.std.specs.Option.{option_map_or, option_map}
use Rattle.std.proofs.lemmas.Bool.{and_parts, both_ways, cases_Bool, cases_lt, cond-true, cond-false, or_cases}
use Rattle.std.proofs.lemmas.List.{drop_all, drop_more, take_more, take_all, map_push, get_or-map, length-map}
use Rattle.std.proofs.lemmas.List.FromFn.{get_or-enumerate_from, length-enumerate_from}
use Rattle.std.proofs.lemmas.List.Elements.{All-nil}
use Rattle.std.proofs.lemmas.Option.{unwrap_or-slice_get, slice_get_past}
use Rattle.std.specs.Global.{Global}
use Rattle.std.specs.List.Sorted.{IsStrictlySortedBy}
use Rattle.mk_name.specs.Reported.{Reported}
use Rattle.mk_name.specs.Names.{Name, has, same_name, IsDistinct}
use Rattle.mk_name.specs.Gives.{Halts}
use Rattle.mk_name.specs.declared.fault.Kind.TheVariants.{MissingFootprint, WritesTarget}
use Rattle.mk_name.specs.declared.fault.Halt.{Halt}
use Rattle.mk_name.specs.declared.fault.Halt.TheVariants as halts
use Rattle.mk_name.proofs.Names.{name_is_exact}
use Rattle.mk_path.specs.Paths.{covered}
use Rattle.mk_path.specs.declared.path.Path.{Path}
use Rattle.mk_jobs.specs.Plan.{Plan, Node, names_of, nobody, NeedsStandBefore, edge_count, edge_limit, node_limit}
use Rattle.mk_jobs.proofs.Numberings.{has_at}
use Rattle.mk_path.specs.Taken.{is_taken}
use Rattle.mk_foot.specs.Attached.{HasAll, attached_beside, first_fault, footprint_of, jobs_with, node_answer, node_fault, recipe_fault, reported}
use Rattle.mk_foot.specs.Footprints.{Footprint, Footprints, LeavesOthers, footprint_at, no_footprint}
use Rattle.mk_jobs.specs.Jobs.{Jobs, node_at, node_count, name_of, is_live, reads_of, writes_of, may_write}
use Rattle.mk_jobs.specs.Recipes.{is_live_node}
use Rattle.mk_jobs.specs.Shape.{AreNamed, IsRising, IsWellFormed}
use Rattle.mk_jobs.proofs.Accessors.{live_is, name_count, name_there, needs_smaller, same_place}
use Rattle.mk_jobs.proofs.JobsLemmas.{live_node}

-- what a value or a fault says of the fault before it
pub fault_none : {X : Type 0} (o : Option Reported) (x y : X) → option_map_or (λ fault. Err fault) o (Ok x) ≡ Ok y → (o ≡ None) × (x ≡ y)
fault_none None x y e = (refl, (let f : ◌≡◌ {A = Result _ Reported} (Ok x) (Ok y) = e in cc))
fault_none (Some t) x y e = absurd (let f : ◌≡◌ {A = Result _ Reported} (Err t) (Ok y) = e in cc)

pub fault_some : {X : Type 0} (o : Option Reported) (x : X) (t : Reported) → option_map_or (λ fault. Err fault) o (Ok x) ≡ Err t → o ≡ Some t
fault_some None x t e = absurd (let f : ◌≡◌ {A = Result _ Reported} (Ok x) (Err t) = e in cc)
fault_some (Some s) x t e = (let f : ◌≡◌ {A = Result _ Reported} (Err s) (Err t) = e in cc)

-- a halt for one answer is one for another with the same faults
pub halts_along : {X Y : Type 0} (halt : Halt) (small : Result X Reported) (big : Result Y Reported) → ((t : Reported) → small ≡ Err t → big ≡ Err t)
    → Halts halt small → Halts halt big
halts_along halts.Memory small big same h = tt
halts_along (halts.Fault fault) small big same h = same fault h

-- of footprints, those of the nodes from a number on are left
pub record AreLeft (plan : Plan) (footprints left : Footprints) (n : ℕ) : Type 0 where
  pub root : left.root ≡ footprints.root
  pub there : (k : ℕ) → n ≤ k → k < length plan.nodes → footprint_at left (get_or plan.nodes k nobody).name ≡ footprint_at footprints (get_or plan.nodes k nobody).name

pub left_all : (plan : Plan) (footprints : Footprints) → AreLeft plan footprints footprints 0
left_all plan footprints = record { root = refl; there = λ k from below. refl }

-- two nodes of one name are one
same_number : (plan : Plan) → IsDistinct same_name (names_of plan.nodes) → (n k : ℕ) → n < length plan.nodes → k < length plan.nodes
    → same_name (get_or plan.nodes n nobody).name (get_or plan.nodes k nobody).name ≡ true → n ≡ k
unfolding node_count name_of
same_number plan distinct n k n_below k_below same =
    same_place (record { plan = plan; root = []; reads = []; writes = [] }) distinct n k n_below k_below
    (ap (λ (d : Node). d.name) (unwrap_or-slice_get plan.nodes n nobody)
    ∙ name_is_exact.equal _ _ same
    ∙ sym (ap (λ (d : Node). d.name) (unwrap_or-slice_get plan.nodes k nobody)))

module _ (plan : Plan) (owned : List Name) (footprints left : Footprints) (n : ℕ) (within : n < length plan.nodes) (are : AreLeft plan footprints left n) where
  -- the node of the number gets the same from them
  pub same_answer : node_answer owned left (n, get_or plan.nodes n nobody) ≡ node_answer owned footprints (n, get_or plan.nodes n nobody)
  same_answer =
      let node = get_or plan.nodes n nobody in
      ap₂ (λ root found. option_map_or (λ fault. Err fault) (if is_live_node node then recipe_fault root owned n node.name found else None)
      (Ok (if is_live_node node then unwrap_or found no_footprint else no_footprint)))
      are.root (are.there n (omega arith) within)

  -- without that of the node, those of the others behind it are left
  pub left_more : (new : Footprints) → IsDistinct same_name (names_of plan.nodes) → LeavesOthers left (get_or plan.nodes n nobody).name new → AreLeft plan footprints new (n + 1)
  left_more new distinct others = record {
    root = others.0 ∙ are.root;
    there = λ k from below. others.1 (get_or plan.nodes k nobody).name (apart k from below) ∙ are.there k (omega (arith, from)) below;
  }
    where
      apart : (k : ℕ) → n + 1 ≤ k → k < length plan.nodes → same_name (get_or plan.nodes n nobody).name (get_or plan.nodes k nobody).name ≡ false
      apart k from below =
          elim (cases_Bool (same_name (get_or plan.nodes n nobody).name (get_or plan.nodes k nobody).name)) [
            | inl same ↦ absurd (let e : n ≡ k = same_number plan distinct n k within below same in omega (arith, e, from))
            | inr other ↦ other
          ]

-- what is known before the node of a number: the first fault is among the nodes that are left, and those before have no fault
-- and rising rows of paths that have names
pub record RowsTo (plan : Plan) (owned : List Name) (footprints : Footprints) (n : ℕ) (reads writes : List (List Path)) : Type 0 where
  pub first : slice_get (filter_map (node_fault owned footprints) (drop n (enumerate_from 0 plan.nodes))) 0 ≡ first_fault plan owned footprints
  pub reads_are : reads ≡ map (λ (node : Node). (footprint_of footprints node).reads) (take n plan.nodes)
  pub writes_are : writes ≡ map (λ (node : Node). (footprint_of footprints node).writes) (take n plan.nodes)
  pub good : (k : ℕ) → k < n → node_fault owned footprints (k, get_or plan.nodes k nobody) ≡ None
  pub reads_rise : (k : ℕ) → k < n → IsRising (footprint_of footprints (get_or plan.nodes k nobody)).reads
  pub writes_rise : (k : ℕ) → k < n → IsRising (footprint_of footprints (get_or plan.nodes k nobody)).writes
  pub reads_named : (k : ℕ) → k < n → AreNamed (footprint_of footprints (get_or plan.nodes k nobody)).reads
  pub writes_named : (k : ℕ) → k < n → AreNamed (footprint_of footprints (get_or plan.nodes k nobody)).writes

pub rows_none : (plan : Plan) (owned : List Name) (footprints : Footprints) → RowsTo plan owned footprints 0 [] []
rows_none plan owned footprints = record {
  first = refl;
  reads_are = refl;
  writes_are = refl;
  good = λ k below. absurd (omega (arith, below));
  reads_rise = λ k below. absurd (omega (arith, below));
  writes_rise = λ k below. absurd (omega (arith, below));
  reads_named = λ k below. absurd (omega (arith, below));
  writes_named = λ k below. absurd (omega (arith, below));
}

module _ (plan : Plan) (owned : List Name) (footprints : Footprints) (n : ℕ) (within : n < length plan.nodes) (reads writes : List (List Path)) (before : RowsTo plan owned footprints n reads writes) where
  fault_in : ℕ × Node → Option Reported
  fault_in = node_fault owned footprints

  node : Node
  node = get_or plan.nodes n nobody

  node_here : drop n (enumerate_from 0 plan.nodes) ≡ (n, node) ∷ drop (n + 1) (enumerate_from 0 plan.nodes)
  unfolding node
  node_here =
      drop_more (enumerate_from 0 plan.nodes) n (0, nobody) (omega (arith, within, length-enumerate_from 0 plan.nodes))
      ∙ ap (λ x. x ∷ drop (n + 1) (enumerate_from 0 plan.nodes))
      (get_or-enumerate_from 0 plan.nodes n (0, nobody) within ∙ ap (λ m. (m, get_or plan.nodes n nobody)) (omega arith))

  at_first : (o : Option Reported) → fault_in (n, node) ≡ o
      → slice_get (filter_map fault_in (drop n (enumerate_from 0 plan.nodes))) 0 ≡ slice_get (cons_option o (filter_map fault_in (drop (n + 1) (enumerate_from 0 plan.nodes)))) 0
  at_first o e =
      ap (λ l. slice_get (filter_map fault_in l) 0) node_here
      ∙ ap (λ p. slice_get (cons_option p (filter_map fault_in (drop (n + 1) (enumerate_from 0 plan.nodes)))) 0) e

  -- the fault of a node is the first
  pub fault_first : (t : Reported) → node_answer owned footprints (n, get_or plan.nodes n nobody) ≡ Err t → attached_beside owned plan footprints ≡ Err t
  unfolding fault_in node
  fault_first t e =
      let here = fault_some (node_fault owned footprints (n, get_or plan.nodes n nobody)) _ t e in
      ap (λ o. option_map_or (λ fault. Err fault) o (Ok (jobs_with footprints plan))) (sym before.first ∙ at_first (Some t) here)

  -- one row more
  pub rows_more : (row : Footprint) → node_answer owned footprints (n, get_or plan.nodes n nobody) ≡ Ok row
      → IsRising row.reads → IsRising row.writes → AreNamed row.reads → AreNamed row.writes → RowsTo plan owned footprints (n + 1) (reads ++ row.reads ∷ []) (writes ++ row.writes ∷ [])
  unfolding fault_in node
  rows_more row e reads_rise writes_rise reads_named writes_named =
      let parts = fault_none (node_fault owned footprints (n, get_or plan.nodes n nobody)) _ row e in
      let one : take (n + 1) plan.nodes ≡ take n plan.nodes ++ get_or plan.nodes n nobody ∷ [] = take_more plan.nodes n nobody within in
      record {
        first = sym (at_first None parts.0) ∙ before.first;
        reads_are = ap₂ (λ xs x. xs ++ x ∷ []) before.reads_are (ap (λ (f : Footprint). f.reads) (sym parts.1))
            ∙ sym (ap (map (λ (d : Node). (footprint_of footprints d).reads)) one ∙ map_push (λ (d : Node). (footprint_of footprints d).reads) (take n plan.nodes) (get_or plan.nodes n nobody));
        writes_are = ap₂ (λ xs x. xs ++ x ∷ []) before.writes_are (ap (λ (f : Footprint). f.writes) (sym parts.1))
            ∙ sym (ap (map (λ (d : Node). (footprint_of footprints d).writes)) one ∙ map_push (λ (d : Node). (footprint_of footprints d).writes) (take n plan.nodes) (get_or plan.nodes n nobody));
        good = λ k below. by_place (λ k. node_fault owned footprints (k, get_or plan.nodes k nobody) ≡ None) before.good parts.0 k below;
        reads_rise = λ k below. by_place (λ k. IsRising (footprint_of footprints (get_or plan.nodes k nobody)).reads) before.reads_rise
            (subst (λ (f : Footprint). IsRising f.reads) (sym parts.1) reads_rise) k below;
        writes_rise = λ k below. by_place (λ k. IsRising (footprint_of footprints (get_or plan.nodes k nobody)).writes) before.writes_rise
            (subst (λ (f : Footprint). IsRising f.writes) (sym parts.1) writes_rise) k below;
        reads_named = λ k below. by_place (λ k. AreNamed (footprint_of footprints (get_or plan.nodes k nobody)).reads) before.reads_named
            (subst (λ (f : Footprint). AreNamed f.reads) (sym parts.1) reads_named) k below;
        writes_named = λ k below. by_place (λ k. AreNamed (footprint_of footprints (get_or plan.nodes k nobody)).writes) before.writes_named
            (subst (λ (f : Footprint). AreNamed f.writes) (sym parts.1) writes_named) k below;
      }
    where
      by_place : (P : ℕ → Type 0) → ((k : ℕ) → k < n → P k) → P n → (k : ℕ) → k < n + 1 → P k
      by_place P old new k below =
          elim (cases_lt k n) [
            | inl less ↦ old k less
            | inr more ↦ subst P (let e : n ≡ k = omega (arith, below, more) in e) new
          ]

-- behind the last node there is no fault
pub rows_all : (plan : Plan) (owned : List Name) (footprints : Footprints) (n : ℕ) (reads writes : List (List Path)) → length plan.nodes ≤ n
    → RowsTo plan owned footprints n reads writes
    → attached_beside owned plan footprints ≡ Ok (record { plan = plan; root = footprints.root; reads = reads; writes = writes })
rows_all plan owned footprints n reads writes past rows =
    let none : first_fault plan owned footprints ≡ None =
    sym rows.first ∙ ap (λ l. slice_get (filter_map (node_fault owned footprints) l) 0)
    (drop_all n (enumerate_from 0 plan.nodes) (omega (arith, past, length-enumerate_from 0 plan.nodes))) in
    ap (λ o. option_map_or (λ fault. Err fault) o (Ok (jobs_with footprints plan))) none
    ∙ λ i. Ok (record {
      plan = plan;
      root = footprints.root;
      reads = (sym (rows.reads_are ∙ ap (map (λ (d : Node). (footprint_of footprints d).reads)) (take_all n plan.nodes past))) i;
      writes = (sym (rows.writes_are ∙ ap (map (λ (d : Node). (footprint_of footprints d).writes)) (take_all n plan.nodes past))) i;
    })

pub rising_nil : IsRising []
unfolding IsStrictlySortedBy
rising_nil = tt

-- the jobs of nodes that have no fault
module _ (plan : Plan) (owned : List Name) (footprints : Footprints)
    (few : length plan.nodes ≤ node_limit) (few_edges : edge_count plan.nodes ≤ edge_limit)
    (distinct : IsDistinct same_name (names_of plan.nodes)) (rising : NeedsStandBefore plan.nodes) (whole : HasAll owned (names_of plan.nodes))
    (good : (k : ℕ) → k < length plan.nodes → node_fault owned footprints (k, get_or plan.nodes k nobody) ≡ None)
    (reads_rise : (k : ℕ) → k < length plan.nodes → IsRising (footprint_of footprints (get_or plan.nodes k nobody)).reads)
    (writes_rise : (k : ℕ) → k < length plan.nodes → IsRising (footprint_of footprints (get_or plan.nodes k nobody)).writes)
    (reads_named : (k : ℕ) → k < length plan.nodes → AreNamed (footprint_of footprints (get_or plan.nodes k nobody)).reads)
    (writes_named : (k : ℕ) → k < length plan.nodes → AreNamed (footprint_of footprints (get_or plan.nodes k nobody)).writes) where
  jobs : Jobs
  jobs = jobs_with footprints plan

  node_is : (n : ℕ) → node_at jobs n ≡ get_or plan.nodes n nobody
  unfolding jobs
  node_is n = unwrap_or-slice_get plan.nodes n nobody

  reads_at : (n : ℕ) → n < length plan.nodes → reads_of jobs n ≡ (footprint_of footprints (get_or plan.nodes n nobody)).reads
  unfolding jobs reads_of
  reads_at n below =
      unwrap_or-slice_get (map (λ (d : Node). (footprint_of footprints d).reads) plan.nodes) n []
      ∙ get_or-map (λ (d : Node). (footprint_of footprints d).reads) plan.nodes n nobody [] below

  writes_at : (n : ℕ) → n < length plan.nodes → writes_of jobs n ≡ (footprint_of footprints (get_or plan.nodes n nobody)).writes
  unfolding jobs writes_of
  writes_at n below =
      unwrap_or-slice_get (map (λ (d : Node). (footprint_of footprints d).writes) plan.nodes) n []
      ∙ get_or-map (λ (d : Node). (footprint_of footprints d).writes) plan.nodes n nobody [] below

  reads_past : (n : ℕ) → length plan.nodes ≤ n → reads_of jobs n ≡ []
  unfolding jobs reads_of
  reads_past n past = ap (λ o. unwrap_or o [])
      (slice_get_past (map (λ (d : Node). (footprint_of footprints d).reads) plan.nodes) n (omega (arith, past, length-map plan.nodes (λ (d : Node). (footprint_of footprints d).reads))))

  writes_past : (n : ℕ) → length plan.nodes ≤ n → writes_of jobs n ≡ []
  unfolding jobs writes_of
  writes_past n past = ap (λ o. unwrap_or o [])
      (slice_get_past (map (λ (d : Node). (footprint_of footprints d).writes) plan.nodes) n (omega (arith, past, length-map plan.nodes (λ (d : Node). (footprint_of footprints d).writes))))

  live_at : (n : ℕ) → is_live_node (get_or plan.nodes n nobody) ≡ is_live jobs n
  live_at n = ap is_live_node (sym (node_is n)) ∙ live_is jobs n

  name_is : (n : ℕ) → name_of jobs n ≡ (get_or plan.nodes n nobody).name
  unfolding name_of
  name_is n = ap (λ (d : Node). d.name) (node_is n)

  count_is : node_count jobs ≡ length plan.nodes
  unfolding node_count jobs
  count_is = refl

  idle_nothing : (n : ℕ) → is_live jobs n ≡ false → footprint_of footprints (get_or plan.nodes n nobody) ≡ no_footprint
  idle_nothing n idle = cond-false (is_live_node (get_or plan.nodes n nobody)) _ _ (live_at n ∙ idle)

  -- of names none of which is taken, one that stands there is not taken
  not_taken : (own : Name) (writes : List Path) (names : List Name) (x : Name) → find (is_taken footprints.root writes own) names ≡ None
      → has same_name names x ≡ true → is_taken footprints.root writes own x ≡ false
  not_taken own writes [] x none there = absurd (both_ways _ refl there)
  not_taken own writes (y ∷ ys) x none there =
      elim (cases_Bool (is_taken footprints.root writes own y)) [
        | inl taken ↦ absurd (let e : Some y ≡ None = sym (cond-true (is_taken footprints.root writes own y) (Some y) _ taken) ∙ none in cc)
        | inr free ↦ elim (or_cases (same_name y x) _ there) [
          | inl same ↦ subst (λ (z : Name). is_taken footprints.root writes own z ≡ false) (name_is_exact.equal y x same) free
          | inr later ↦ not_taken own writes ys x (sym (cond-false (is_taken footprints.root writes own y) (Some y) _ free) ∙ none) later
        ]
      ]

  option_none : {A B : Type 0} (f : A → B) (o : Option A) → option_map f o ≡ None → o ≡ None
  option_none f None e = refl
  option_none f (Some a) e = absurd (let g : Some (f a) ≡ None = e in cc)

  free_writes : (n : ℕ) (own : Name) (o : Option Footprint) (x : Name) → recipe_fault footprints.root owned n own o ≡ None
      → has same_name owned x ≡ true → is_taken footprints.root (unwrap_or o no_footprint).writes own x ≡ false
  free_writes n own None x none there = absurd (let g : Some (reported MissingFootprint n (own ∷ [])) ≡ None = none in cc)
  free_writes n own (Some footprint) x none there =
      not_taken own footprint.writes owned x
      (option_none (λ y. reported WritesTarget n (own ∷ y ∷ [])) (find (is_taken footprints.root footprint.writes own) owned) none) there

  -- a name that is written and not taken is the own one
  same_own : (own : Name) (writes : List Path) (x : Name) → covered footprints.root writes x ≡ true → is_taken footprints.root writes own x ≡ false → own ≡ x
  same_own own writes x written free =
      elim (cases_Bool (same_name own x)) [
        | inl same ↦ name_is_exact.equal own x same
        | inr other ↦ absurd (both_ways _ free (ap₂ (λ a b. not a && b) other written))
      ]

  own_alone : (n m : ℕ) → m < node_count jobs → may_write jobs n (name_of jobs m) ≡ true → name_of jobs n ≡ name_of jobs m
  unfolding may_write jobs
  own_alone n m below writes =
      let parts = and_parts _ _ writes in
      let x = name_of jobs m in
      let n_below : n < length plan.nodes = subst (λ k. n < k) count_is (live_node jobs n parts.0) in
      let node = get_or plan.nodes n nobody in
      let live : is_live_node node ≡ true = live_at n ∙ parts.0 in
      let mine : footprint_of footprints node ≡ unwrap_or (footprint_at footprints node.name) no_footprint = cond-true (is_live_node node) _ _ live in
      let written : covered footprints.root (unwrap_or (footprint_at footprints node.name) no_footprint).writes x ≡ true =
      ap (λ (f : Footprint). covered footprints.root f.writes x) (sym mine) ∙ ap (λ ws. covered footprints.root ws x) (sym (writes_at n n_below)) ∙ parts.1 in
      let none : recipe_fault footprints.root owned n node.name (footprint_at footprints node.name) ≡ None =
      sym (cond-true (is_live_node node) _ _ live) ∙ good n n_below in
      let named : has same_name (names_of plan.nodes) x ≡ true =
      subst (λ (y : Name). has same_name (names_of plan.nodes) y ≡ true) (name_there jobs m below) (has_at (names_of plan.nodes) m (omega (arith, below, name_count jobs))) in
      name_is n ∙ same_own node.name _ x written (free_writes n node.name (footprint_at footprints node.name) x none (whole x named))

  all_rows : (f : Node → List Path) → length (map f plan.nodes) ≡ node_count jobs
  unfolding jobs node_count
  all_rows f = length-map plan.nodes f

  jobs_few : node_count jobs ≤ node_limit
  unfolding jobs node_count
  jobs_few = few

  shape_is : IsWellFormed jobs
  unfolding jobs
  shape_is = record {
    few = jobs_few;
    few_edges = few_edges;
    distinct = same_place (jobs_with footprints plan) distinct;
    smaller = needs_smaller (jobs_with footprints plan) rising;
    all_reads = all_rows (λ (d : Node). (footprint_of footprints d).reads);
    all_writes = all_rows (λ (d : Node). (footprint_of footprints d).writes);
    reads_rise = λ n. elim (cases_lt n (length plan.nodes)) [
      | inl below ↦ subst IsRising (sym (reads_at n below)) (reads_rise n below)
      | inr past ↦ subst IsRising (sym (reads_past n past)) rising_nil
    ];
    writes_rise = λ n. elim (cases_lt n (length plan.nodes)) [
      | inl below ↦ subst IsRising (sym (writes_at n below)) (writes_rise n below)
      | inr past ↦ subst IsRising (sym (writes_past n past)) rising_nil
    ];
    reads_named = λ n. elim (cases_lt n (length plan.nodes)) [
      | inl below ↦ subst AreNamed (sym (reads_at n below)) (reads_named n below)
      | inr past ↦ subst AreNamed (sym (reads_past n past)) (All-nil _)
    ];
    writes_named = λ n. elim (cases_lt n (length plan.nodes)) [
      | inl below ↦ subst AreNamed (sym (writes_at n below)) (writes_named n below)
      | inr past ↦ subst AreNamed (sym (writes_past n past)) (All-nil _)
    ];
    no_reads = λ n idle. elim (cases_lt n (length plan.nodes)) [
      | inl below ↦ reads_at n below ∙ ap (λ (f : Footprint). f.reads) (idle_nothing n idle)
      | inr past ↦ reads_past n past
    ];
    no_writes = λ n idle. elim (cases_lt n (length plan.nodes)) [
      | inl below ↦ writes_at n below ∙ ap (λ (f : Footprint). f.writes) (idle_nothing n idle)
      | inr past ↦ writes_past n past
    ];
    own = own_alone;
  }

-- a row behind the others
pub row_pushed : (rows new : List (Vec Path Global)) (v : Vec Path Global) (row : List Path) → new ≡ rows ++ v ∷ [] → v.items ≡ row
    → map (λ (r : Vec Path Global). r.items) rows ++ row ∷ [] ≡ map (λ (r : Vec Path Global). r.items) new
row_pushed rows new v row e f =
    ap (λ x. map (λ (r : Vec Path Global). r.items) rows ++ x ∷ []) (sym f)
    ∙ sym (map_push (λ (r : Vec Path Global). r.items) rows v) ∙ ap (map (λ (r : Vec Path Global). r.items)) (sym e)

-- behind the last node the rows are well-formed
pub rows_shape : (plan : Plan) (owned : List Name) (footprints : Footprints) (n : ℕ) (reads writes : List (List Path)) → length plan.nodes ≤ n
    → length plan.nodes ≤ node_limit → edge_count plan.nodes ≤ edge_limit → IsDistinct same_name (names_of plan.nodes) → NeedsStandBefore plan.nodes → HasAll owned (names_of plan.nodes)
    → RowsTo plan owned footprints n reads writes → IsWellFormed (record { plan = plan; root = footprints.root; reads = reads; writes = writes })
unfolding jobs
rows_shape plan owned footprints n reads writes past few few_edges distinct rising whole rows =
    let all : IsWellFormed (jobs_with footprints plan) =
    shape_is plan owned footprints few few_edges distinct rising whole
    (λ k below. rows.good k (omega (arith, below, past)))
    (λ k below. rows.reads_rise k (omega (arith, below, past)))
    (λ k below. rows.writes_rise k (omega (arith, below, past)))
    (λ k below. rows.reads_named k (omega (arith, below, past)))
    (λ k below. rows.writes_named k (omega (arith, below, past))) in
    subst IsWellFormed (λ i. record {
      plan = plan;
      root = footprints.root;
      reads = (sym (rows.reads_are ∙ ap (map (λ (d : Node). (footprint_of footprints d).reads)) (take_all n plan.nodes past))) i;
      writes = (sym (rows.writes_are ∙ ap (map (λ (d : Node). (footprint_of footprints d).writes)) (take_all n plan.nodes past))) i;
    }) all
