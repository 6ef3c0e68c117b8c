-- Jobs with edges added.
use Rattle.std.proofs.Common.{ℕ, zero, suc, ◌≡◌, ◌<◌, ◌≤◌, ◌+◌, ◌⊎◌, Bool, true, false, List, [], ◌∷◌, Contains, length, refl, sym, ap, subst, ◌∙◌, inl, inr, arith}
use Rattle.std.specs.Prelude.{◌==◌, ◌&&◌, not}
use Rattle.std.proofs.lemmas.Bool.{cases_Bool, cond_both, cond-true, eq-eqb, eqb-true, false≢true}
use Rattle.std.proofs.lemmas.List.Elements.{Contains-append_cases, Contains-append_left, Contains-append_right, Contains-push, Contains-push_cases}
use Rattle.mk_name.specs.Names.{Name}
use Rattle.mk_jobs.specs.Plan.{Node, node_at}
use Rattle.mk_jobs.specs.Jobs.{Jobs, Before, edge, further, Clash, ClashOn, IsPrerequisite, has_recipe, is_empty, is_listed, is_live, is_phony, may_read, may_touch, may_write, name_of, node_count, prerequisites_of, reads_of, writes_of}
use Rattle.mk_jobs.specs.Shape.{IsWellFormed}
use Rattle.mk_jobs.specs.Plan.{edge_count, edge_limit}
use Rattle.mk_fix.specs.Added.{AreRisingToLive, more_needs, sources_to, with_edges}

-- membership at the head of a list
pub here : {X : Type 0} (x : X) (xs : List X) → Contains (x ∷ xs) x
here x xs = Contains-append_left (x ∷ []) xs x (Contains-push [] x)

pub there : {X : Type 0} (x : X) (xs : List X) (y : X) → Contains xs y → Contains (x ∷ xs) y
there x xs y h = Contains-append_right (x ∷ []) xs y h

pub cons_cases : {X : Type 0} (x : X) (xs : List X) (y : X) → Contains (x ∷ xs) y → (x ≡ y) ⊎ Contains xs y
cons_cases x xs y h = elim (Contains-append_cases (x ∷ []) xs y h) [
  | inl one ↦ elim (Contains-push_cases [] x y one) [ inl none ↦ absurd (let no = none.1 in omega (arith, no)) | inr same ↦ inl same ]
  | inr rest ↦ inr rest
]

pub none_in : {X : Type 0} (x : X) → Contains [] x → ⊥
none_in x h = let no = h.1 in omega (arith, no)

-- the sources of a node are just the first nodes of the edges to it
pub source_in : (edges : List (ℕ × ℕ)) (p n : ℕ) → Contains edges (p, n) → Contains (sources_to edges n) p
source_in [] p n h = absurd (none_in (p, n) h)
source_in (e ∷ edges) p n h = elim (cons_cases e edges (p, n) h) [
  | inl is ↦
      subst (λ (xs : List ℕ). Contains xs p) (sym (cond-true (e.1 == n) (e.0 ∷ sources_to edges n) (sources_to edges n) (eq-eqb e.1 n (ap (λ (q : ℕ × ℕ). q.1) is))))
      (subst (λ (x : ℕ). Contains (e.0 ∷ sources_to edges n) x) (ap (λ (q : ℕ × ℕ). q.0) is) (here e.0 (sources_to edges n)))
  | inr rest ↦ cond_both (e.1 == n) (e.0 ∷ sources_to edges n) (sources_to edges n) (λ (xs : List ℕ). Contains xs p)
      (λ t. there e.0 (sources_to edges n) p (source_in edges p n rest)) (λ f. source_in edges p n rest)
]

pub source_out : (edges : List (ℕ × ℕ)) (p n : ℕ) → Contains (sources_to edges n) p → Contains edges (p, n)
source_out [] p n = λ h. absurd (none_in p h)
source_out (e ∷ edges) p n = cond_both (e.1 == n) (e.0 ∷ sources_to edges n) (sources_to edges n) (λ (xs : List ℕ). Contains xs p → Contains (e ∷ edges) (p, n))
    (λ t h. elim (cons_cases e.0 (sources_to edges n) p h) [
      | inl same ↦ subst (λ (x : ℕ). Contains (e ∷ edges) (x, n)) same (subst (λ (y : ℕ). Contains (e ∷ edges) (e.0, y)) (eqb-true e.1 n t) (here e edges))
      | inr rest ↦ there e edges (p, n) (source_out edges p n rest)
    ])
    (λ f h. there e edges (p, n) (source_out edges p n h))

-- the nodes stay, except what they need
pub node_name : (edges : List (ℕ × ℕ)) (k : ℕ) (nodes : List Node) (n : ℕ) → (node_at (more_needs edges k nodes) n).name ≡ (node_at nodes n).name
node_name edges k [] n = refl
node_name edges k (node ∷ nodes) zero = refl
node_name edges k (node ∷ nodes) (suc n) = node_name edges (suc k) nodes n

node_maker : (edges : List (ℕ × ℕ)) (k : ℕ) (nodes : List Node) (n : ℕ) → (node_at (more_needs edges k nodes) n).maker ≡ (node_at nodes n).maker
node_maker edges k [] n = refl
node_maker edges k (node ∷ nodes) zero = refl
node_maker edges k (node ∷ nodes) (suc n) = node_maker edges (suc k) nodes n

node_phony : (edges : List (ℕ × ℕ)) (k : ℕ) (nodes : List Node) (n : ℕ) → (node_at (more_needs edges k nodes) n).phony ≡ (node_at nodes n).phony
node_phony edges k [] n = refl
node_phony edges k (node ∷ nodes) zero = refl
node_phony edges k (node ∷ nodes) (suc n) = node_phony edges (suc k) nodes n

node_listed : (edges : List (ℕ × ℕ)) (k : ℕ) (nodes : List Node) (n : ℕ) → (node_at (more_needs edges k nodes) n).listed ≡ (node_at nodes n).listed
node_listed edges k [] n = refl
node_listed edges k (node ∷ nodes) zero = refl
node_listed edges k (node ∷ nodes) (suc n) = node_listed edges (suc k) nodes n

pub nodes_count : (edges : List (ℕ × ℕ)) (k : ℕ) (nodes : List Node) → length (more_needs edges k nodes) ≡ length nodes
nodes_count edges k [] = refl
nodes_count edges k (node ∷ nodes) = ap suc (nodes_count edges (suc k) nodes)

needs_old : (edges : List (ℕ × ℕ)) (k : ℕ) (nodes : List Node) (n p : ℕ) → Contains (node_at nodes n).prerequisites p → Contains (node_at (more_needs edges k nodes) n).prerequisites p
needs_old edges k [] n p h = h
needs_old edges k (node ∷ nodes) zero p h = Contains-append_left node.prerequisites (sources_to edges k) p h
needs_old edges k (node ∷ nodes) (suc n) p h = needs_old edges (suc k) nodes n p h

needs_new : (edges : List (ℕ × ℕ)) (k : ℕ) (nodes : List Node) (n p : ℕ) → n < length nodes → Contains edges (p, k + n) → Contains (node_at (more_needs edges k nodes) n).prerequisites p
needs_new edges k [] n p below h = absurd (omega (arith, below))
needs_new edges k (node ∷ nodes) zero p below h =
    Contains-append_right node.prerequisites (sources_to edges k) p (source_in edges p k (subst (λ (m : ℕ). Contains edges (p, m)) (let e : k + 0 ≡ k = omega arith in e) h))
needs_new edges k (node ∷ nodes) (suc n) p below h =
    needs_new edges (suc k) nodes n p (omega (arith, below)) (subst (λ (m : ℕ). Contains edges (p, m)) (let e : k + suc n ≡ suc k + n = omega arith in e) h)

needs_cases : (edges : List (ℕ × ℕ)) (k : ℕ) (nodes : List Node) (n p : ℕ) → Contains (node_at (more_needs edges k nodes) n).prerequisites p
    → Contains (node_at nodes n).prerequisites p ⊎ Contains edges (p, k + n)
needs_cases edges k [] n p h = inl h
needs_cases edges k (node ∷ nodes) zero p h = elim (Contains-append_cases node.prerequisites (sources_to edges k) p h) [
  | inl old ↦ inl old
  | inr new ↦ inr (subst (λ (m : ℕ). Contains edges (p, m)) (let e : k ≡ k + 0 = omega arith in e) (source_out edges p k new))
]
needs_cases edges k (node ∷ nodes) (suc n) p h = elim (needs_cases edges (suc k) nodes n p h) [
  | inl old ↦ inl old
  | inr new ↦ inr (subst (λ (m : ℕ). Contains edges (p, m)) (let e : suc k + n ≡ k + suc n = omega arith in e) new)
]

-- an edge is one of the jobs or one of those added
pub old_edge : (jobs : Jobs) (edges : List (ℕ × ℕ)) (p n : ℕ) → IsPrerequisite jobs p n → IsPrerequisite (with_edges jobs edges) p n
unfolding prerequisites_of
old_edge jobs edges p n h = needs_old edges 0 jobs.plan.nodes n p h

pub new_edge : (jobs : Jobs) (edges : List (ℕ × ℕ)) (p n : ℕ) → n < node_count jobs → Contains edges (p, n) → IsPrerequisite (with_edges jobs edges) p n
unfolding prerequisites_of node_count
new_edge jobs edges p n below h = needs_new edges 0 jobs.plan.nodes n p below (subst (λ (m : ℕ). Contains edges (p, m)) (let e : n ≡ 0 + n = omega arith in e) h)

pub edge_cases : (jobs : Jobs) (edges : List (ℕ × ℕ)) (p n : ℕ) → IsPrerequisite (with_edges jobs edges) p n → IsPrerequisite jobs p n ⊎ Contains edges (p, n)
unfolding prerequisites_of
edge_cases jobs edges p n h = elim (needs_cases edges 0 jobs.plan.nodes n p h) [
  | inl old ↦ inl old
  | inr new ↦ inr (subst (λ (m : ℕ). Contains edges (p, m)) (let e : 0 + n ≡ n = omega arith in e) new)
]

pub before_more : {jobs : Jobs} (edges : List (ℕ × ℕ)) {a b : ℕ} → Before jobs a b → Before (with_edges jobs edges) a b
before_more {jobs} edges {a} {b} (edge p) = edge (old_edge jobs edges _ _ p)
before_more {jobs} edges {a} {b} (further chain p) = further (before_more edges chain) (old_edge jobs edges _ _ p)

-- a live recipe that needs something more stays live
live_up : (r l p : Bool) → r && not (r && l && p && true) ≡ true → r && not (r && l && p && false) ≡ true
live_up true true true h = refl
live_up true true false h = refl
live_up true false p h = refl
live_up false l p h = h

pub empty_none : (xs : List ℕ) (p : ℕ) → is_empty xs ≡ true → Contains xs p → ⊥
empty_none [] p e h = none_in p h
empty_none (x ∷ xs) p e h = false≢true e

pub full_one : (xs : List ℕ) → is_empty xs ≡ false → (p : ℕ) × Contains xs p
full_one [] e = absurd (false≢true (sym e))
full_one (x ∷ xs) e = (x, here x xs)

module _ (jobs : Jobs) (edges : List (ℕ × ℕ)) (rising : AreRisingToLive jobs edges) where
  pub recipe_same : (n : ℕ) → has_recipe (with_edges jobs edges) n ≡ has_recipe jobs n
  unfolding has_recipe
  recipe_same n = rw (node_maker edges 0 jobs.plan.nodes n) refl

  pub phony_same : (n : ℕ) → is_phony (with_edges jobs edges) n ≡ is_phony jobs n
  unfolding is_phony
  phony_same n = node_phony edges 0 jobs.plan.nodes n

  pub listed_same : (n : ℕ) → is_listed (with_edges jobs edges) n ≡ is_listed jobs n
  unfolding is_listed
  listed_same n = node_listed edges 0 jobs.plan.nodes n

  pub name_same : (n : ℕ) → name_of (with_edges jobs edges) n ≡ name_of jobs n
  unfolding name_of
  name_same n = node_name edges 0 jobs.plan.nodes n

  pub count_same : node_count (with_edges jobs edges) ≡ node_count jobs
  unfolding node_count
  count_same = nodes_count edges 0 jobs.plan.nodes

  old_live : (n : ℕ) (e : Bool) → is_empty (prerequisites_of jobs n) ≡ e → is_live jobs n
      ≡ (has_recipe jobs n && not (has_recipe jobs n && is_listed jobs n && not (is_phony jobs n) && e))
  old_live n e is = rw is refl

  new_live : (n : ℕ) (e : Bool) → is_empty (prerequisites_of (with_edges jobs edges) n) ≡ e → is_live (with_edges jobs edges) n
      ≡ (has_recipe jobs n && not (has_recipe jobs n && is_listed jobs n && not (is_phony jobs n) && e))
  new_live n e is = rw (recipe_same n, listed_same n, phony_same n, is) refl

  pub live_same : (n : ℕ) → is_live (with_edges jobs edges) n ≡ is_live jobs n
  live_same n = elim (cases_Bool (is_empty (prerequisites_of jobs n))) [
    | inl old ↦ elim (cases_Bool (is_empty (prerequisites_of (with_edges jobs edges) n))) [
      | inl new ↦ new_live n true new ∙ sym (old_live n true old)
      | inr new ↦
          let some = full_one (prerequisites_of (with_edges jobs edges) n) new in
          elim (edge_cases jobs edges some.0 n some.1) [
            | inl was ↦ absurd (empty_none (prerequisites_of jobs n) some.0 old was)
            | inr added ↦
                let live = (rising some.0 n added).1 in
                new_live n false new ∙ live_up (has_recipe jobs n) (is_listed jobs n) (not (is_phony jobs n)) (sym (old_live n true old) ∙ live) ∙ sym live
          ]
    ]
    | inr old ↦ elim (cases_Bool (is_empty (prerequisites_of (with_edges jobs edges) n))) [
      | inl new ↦
          let some = full_one (prerequisites_of jobs n) old in
          absurd (empty_none (prerequisites_of (with_edges jobs edges) n) some.0 new (old_edge jobs edges some.0 n some.1))
      | inr new ↦ new_live n false new ∙ sym (old_live n false old)
    ]
  ]

  pub read_same : (n : ℕ) (x : Name) → may_read (with_edges jobs edges) n x ≡ may_read jobs n x
  unfolding may_read reads_of
  read_same n x = rw (live_same n) refl

  pub write_same : (n : ℕ) (x : Name) → may_write (with_edges jobs edges) n x ≡ may_write jobs n x
  unfolding may_write writes_of
  write_same n x = rw (live_same n) refl

  touch_same : (n : ℕ) (x : Name) → may_touch (with_edges jobs edges) n x ≡ may_touch jobs n x
  touch_same n x = rw (read_same n x, write_same n x) refl

  clash_on_down : (a b : ℕ) (x : Name) → ClashOn (with_edges jobs edges) a b x → ClashOn jobs a b x
  clash_on_down a b x clash = record {
    different = clash.different;
    first = sym (touch_same a x) ∙ clash.first;
    second = sym (touch_same b x) ∙ clash.second;
    written = rw (sym (write_same a x), sym (write_same b x)) clash.written;
  }

  clash_on_up : (a b : ℕ) (x : Name) → ClashOn jobs a b x → ClashOn (with_edges jobs edges) a b x
  clash_on_up a b x clash = record {
    different = clash.different;
    first = touch_same a x ∙ clash.first;
    second = touch_same b x ∙ clash.second;
    written = rw (write_same a x, write_same b x) clash.written;
  }

  pub clash_down : (a b : ℕ) → Clash (with_edges jobs edges) a b → Clash jobs a b
  clash_down a b clash = (clash.0, clash_on_down a b clash.0 clash.1)

  pub clash_up : (a b : ℕ) → Clash jobs a b → Clash (with_edges jobs edges) a b
  clash_up a b clash = (clash.0, clash_on_up a b clash.0 clash.1)

  pub still_smaller : ((n p : ℕ) → IsPrerequisite jobs p n → p < n) → (n p : ℕ) → IsPrerequisite (with_edges jobs edges) p n → p < n
  still_smaller smaller n p h = elim (edge_cases jobs edges p n h) [ inl was ↦ smaller n p was | inr added ↦ (rising p n added).0 ]

  reads_same : (n : ℕ) → reads_of (with_edges jobs edges) n ≡ reads_of jobs n
  unfolding reads_of
  reads_same n = refl

  writes_same : (n : ℕ) → writes_of (with_edges jobs edges) n ≡ writes_of jobs n
  unfolding writes_of
  writes_same n = refl

  pub shape_stays : IsWellFormed jobs → edge_count (with_edges jobs edges).plan.nodes ≤ edge_limit → IsWellFormed (with_edges jobs edges)
  unfolding reads_of writes_of
  shape_stays shape few = record {
    few = rw count_same shape.few;
    few_edges = few;
    distinct = λ n m below other same. shape.distinct n m (rw (sym count_same) below) (rw (sym count_same) other) (sym (name_same n) ∙ same ∙ name_same m);
    smaller = still_smaller shape.smaller;
    all_reads = shape.all_reads ∙ sym count_same;
    all_writes = shape.all_writes ∙ sym count_same;
    reads_rise = shape.reads_rise;
    writes_rise = shape.writes_rise;
    reads_named = shape.reads_named;
    writes_named = shape.writes_named;
    no_reads = λ n dead. shape.no_reads n (sym (live_same n) ∙ dead);
    no_writes = λ n dead. shape.no_writes n (sym (live_same n) ∙ dead);
    own = λ n m below writes. name_same n ∙ shape.own n m (rw (sym count_same) below)
        (sym (write_same n (name_of jobs m)) ∙ ap (may_write (with_edges jobs edges) n) (sym (name_same m)) ∙ writes) ∙ sym (name_same m);
  }
