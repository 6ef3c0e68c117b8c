-- The jobs of good items, of which none writes the name of another, are well-formed.
use Rattle.std.proofs.Common.{ℕ, ◌≡◌, ◌∙◌, ◌<◌, ◌≤◌, ◌+◌, Bool, true, false, cond, List, [], ◌∷◌, All, None, arith, get_or, length, map, refl, sym, ap, subst, inl, inr}
use Rattle.std.specs.Prelude.{slice_get, unwrap_or}
use Rattle.std.proofs.lemmas.Bool.{and_parts, cases_lt, cond-false}
use Rattle.std.proofs.lemmas.List.{get_or-map, length-map}
use Rattle.std.proofs.lemmas.List.Elements.{All-head, All-nil, All-tail}
use Rattle.std.proofs.lemmas.List.Sums.{sum_by-cons}
use Rattle.std.proofs.lemmas.Option.{slice_get_past, unwrap_or-slice_get}
use Rattle.mk_name.specs.Names.{IsDistinct, Name, has, same_name}
use Rattle.mk_text.specs.Listing as listings
use Rattle.mk_text.proofs.Ordered.{has-in_order}
use Rattle.mk_path.specs.declared.path.Path.{Path}
use Rattle.mk_path.specs.Paths.{covered}
use Rattle.mk_jobs.specs.Plan as plans
use Rattle.mk_jobs.specs.Plan.{Node, nobody}
use Rattle.mk_jobs.specs.Jobs.{Jobs, is_live, may_write, name_of, node_count}
use Rattle.mk_jobs.specs.Jobs as jobs_specs
use Rattle.mk_jobs.specs.Recipes.{is_live_node}
use Rattle.mk_jobs.specs.Shape.{AreNamed, IsRising, IsWellFormed}
use Rattle.mk_jobs.proofs.Accessors.{live_is, name_count, name_there, needs_smaller, same_place}
use Rattle.mk_jobs.proofs.JobsLemmas.{live_node}
use Rattle.mk_jobs.proofs.Numberings.{has_at}
use Rattle.mk_foot.specs.Footprints.{in_order}
use Rattle.mk_foot.proofs.AttachNodes.{rising_nil}
use Rattle.mk_task.proofs.Apart.{order_named}
use Rattle.mk_due.specs.Good.{AreGood, IsNamed}
use Rattle.mk_due.specs.Items.{DueItem, edge_count, names_of, nodes_of}
use Rattle.mk_due.specs.JobsOf.{first_fault, jobs_of, reads_of, writes_of}
use Rattle.mk_due.proofs.Taken.{IsFree, all_free, free_own}

-- what stands past the last item
nothing : DueItem
nothing = record { node = nobody; label = []; place = 0; reads = []; writes = [] }

pub edges_same : (items : List DueItem) → plans.edge_count (nodes_of items) ≡ edge_count items
edges_same [] = refl
edges_same (i ∷ items) =
    sum_by-cons (λ (n : Node). length n.prerequisites) i.node (nodes_of items)
    ∙ ap (λ k. length i.node.prerequisites + k) (edges_same items)
    ∙ sym (sum_by-cons (λ (u : DueItem). length u.node.prerequisites) i items)

pub names_same : (items : List DueItem) → plans.names_of (nodes_of items) ≡ names_of items
names_same [] = refl
names_same (i ∷ items) = ap (λ ns. i.node.name ∷ ns) (names_same items)

all_at : {X : Type 0} (P : X → Type 0) (xs : List X) (n : ℕ) (d : X) → All P xs → n < length xs → P (get_or xs n d)
all_at P [] n d all below = absurd (omega (arith, below))
all_at P (x ∷ xs) ℕ.zero d all below = All-head P x xs all
all_at P (x ∷ xs) (ℕ.suc n) d all below = all_at P xs n d (All-tail P x xs all) (omega (arith, below))

reads_named : (item : DueItem) → IsNamed item → AreNamed (reads_of item)
reads_named item named = by (is_live_node item.node)
  where
    by : (b : Bool) → AreNamed (cond b (in_order item.reads) [])
    by true = order_named item.reads named.reads
    by false = All-nil _

writes_named : (item : DueItem) → IsNamed item → AreNamed (writes_of item)
writes_named item named = by (is_live_node item.node)
  where
    by : (b : Bool) → AreNamed (cond b (in_order item.writes) [])
    by true = order_named item.writes named.writes
    by false = All-nil _

module _ (root : List ℕ) (items : List DueItem) (good : AreGood items) (none : first_fault root (listings.in_order (names_of items)) items ≡ None)
    (reads_rise : All IsRising (map reads_of items)) (writes_rise : All IsRising (map writes_of items)) where
  jobs : Jobs
  jobs = jobs_of root items

  count_is : node_count jobs ≡ length items
  unfolding node_count jobs
  count_is = length-map items (λ (i : DueItem). i.node)

  node_is : (n : ℕ) → n < length items → jobs_specs.node_at jobs n ≡ (get_or items n nothing).node
  unfolding jobs
  node_is n below = unwrap_or-slice_get (nodes_of items) n nobody ∙ get_or-map (λ (i : DueItem). i.node) items n nothing nobody below

  row_at : (f : DueItem → List Path) (n : ℕ) → n < length items → unwrap_or (slice_get (map f items) n) [] ≡ f (get_or items n nothing)
  row_at f n below = unwrap_or-slice_get (map f items) n [] ∙ get_or-map f items n nothing [] below

  row_past : (f : DueItem → List Path) (n : ℕ) → length items ≤ n → unwrap_or (slice_get (map f items) n) [] ≡ []
  row_past f n past = ap (λ o. unwrap_or o []) (slice_get_past (map f items) n (omega (arith, past, length-map items f)))

  -- what holds of each row, and of no paths, holds of the row of any number
  each_row : (P : List Path → Type 0) (f : DueItem → List Path) → ((n : ℕ) → n < length items → P (f (get_or items n nothing))) → P [] → (n : ℕ) → P (unwrap_or (slice_get (map f items) n) [])
  each_row P f here nil n = elim (cases_lt n (length items)) [
    | inl below ↦ subst P (sym (row_at f n below)) (here n below)
    | inr past ↦ subst P (sym (row_past f n past)) nil
  ]

  rise : (f : DueItem → List Path) → All IsRising (map f items) → (n : ℕ) → n < length items → IsRising (f (get_or items n nothing))
  rise f all n below = subst IsRising (get_or-map f items n nothing [] below) (all_at IsRising (map f items) n [] all (omega (arith, below, length-map items f)))

  named : (n : ℕ) → n < length items → IsNamed (get_or items n nothing)
  named n below = all_at IsNamed items n nothing good.named below

  live_at : (n : ℕ) → n < length items → is_live_node (get_or items n nothing).node ≡ is_live jobs n
  live_at n below = ap is_live_node (sym (node_is n below)) ∙ live_is jobs n

  idle_none : (f : DueItem → List Path) → ((item : DueItem) → is_live_node item.node ≡ false → f item ≡ []) → (n : ℕ) → is_live jobs n ≡ false → unwrap_or (slice_get (map f items) n) [] ≡ []
  idle_none f nil n idle = elim (cases_lt n (length items)) [
    | inl below ↦ row_at f n below ∙ nil (get_or items n nothing) (live_at n below ∙ idle)
    | inr past ↦ row_past f n past
  ]

  name_is : (n : ℕ) → n < length items → name_of jobs n ≡ (get_or items n nothing).node.name
  unfolding name_of
  name_is n below = ap (λ (d : Node). d.name) (node_is n below)

  named_there : (m : ℕ) → m < node_count jobs → has same_name (listings.in_order (names_of items)) (name_of jobs m) ≡ true
  unfolding jobs
  named_there m below =
      has-in_order (names_of items) (name_of jobs m) ∙ ap (λ ns. has same_name ns (name_of jobs m)) (sym (names_same items))
      ∙ subst (λ (y : Name). has same_name (plans.names_of (nodes_of items)) y ≡ true) (name_there jobs m below)
      (has_at (plans.names_of (nodes_of items)) m (omega (arith, below, name_count jobs)))

  own_alone : (n m : ℕ) → m < node_count jobs → may_write jobs n (name_of jobs m) ≡ true → name_of jobs n ≡ name_of jobs m
  unfolding may_write jobs jobs_specs.writes_of
  own_alone n m below writes =
      let parts = and_parts _ _ writes in
      let x = name_of jobs m in
      let n_below : n < length items = subst (λ k. n < k) count_is (live_node jobs n parts.0) in
      let item = get_or items n nothing in
      let written : covered root (writes_of item) x ≡ true = ap (λ ws. covered root ws x) (sym (row_at writes_of n n_below)) ∙ parts.1 in
      name_is n n_below
      ∙ free_own root (listings.in_order (names_of items)) item x (all_at (IsFree root (listings.in_order (names_of items))) items n nothing (all_free root (listings.in_order (names_of items)) items none) n_below)
      (named_there m below) written

  all_rows : (f : DueItem → List Path) → length (map f items) ≡ node_count jobs
  all_rows f = length-map items f ∙ sym count_is

  pub shape : IsWellFormed (jobs_of root items)
  unfolding jobs jobs_specs.reads_of jobs_specs.writes_of
  shape = record {
    few = omega (arith, count_is, good.few);
    few_edges = omega (arith, edges_same items, good.few_edges);
    distinct = same_place (jobs_of root items) (subst (IsDistinct same_name) (sym (names_same items)) good.distinct);
    smaller = needs_smaller (jobs_of root items) good.behind;
    all_reads = all_rows reads_of;
    all_writes = all_rows writes_of;
    reads_rise = each_row IsRising reads_of (rise reads_of reads_rise) rising_nil;
    writes_rise = each_row IsRising writes_of (rise writes_of writes_rise) rising_nil;
    reads_named = each_row AreNamed reads_of (λ n below. reads_named (get_or items n nothing) (named n below)) (All-nil _);
    writes_named = each_row AreNamed writes_of (λ n below. writes_named (get_or items n nothing) (named n below)) (All-nil _);
    no_reads = idle_none reads_of (λ item idle. cond-false (is_live_node item.node) _ _ idle);
    no_writes = idle_none writes_of (λ item idle. cond-false (is_live_node item.node) _ _ idle);
    own = own_alone;
  }
