-- The jobs of good tasks are well-formed.
use Rattle.std.proofs.Common.{ℕ, ◌≡◌, ◌∙◌, ◌<◌, ◌≤◌, ◌+◌, true, false, List, [], ◌∷◌, All, arith, get_or, length, map, refl, sym, ap, subst, inl, inr}
use Rattle.std.specs.Prelude.{nat_eq, slice_get, unwrap_or, IsTrue}
use Rattle.std.proofs.lemmas.Bool.{and_parts, both_ways, cases_lt}
use Rattle.std.proofs.lemmas.List.{get_or-map, length-map}
use Rattle.std.proofs.lemmas.List.Elements.{All-head, All-nil, All-tail}
use Rattle.std.proofs.lemmas.List.Sums.{sum_by-cons}
use Rattle.std.proofs.lemmas.Option.{slice_get_past, unwrap_or-slice_get}
use Rattle.mk_name.specs.Names.{IsDistinct, Name, has, same_name}
use Rattle.mk_path.specs.declared.path.Path.{Path}
use Rattle.mk_path.specs.Paths.{covered}
use Rattle.mk_jobs.specs.Plan as plans
use Rattle.mk_jobs.specs.Plan.{NeedsStandBefore, Node, names_of, nobody}
use Rattle.mk_jobs.specs.Jobs.{Jobs, is_live, may_write, name_of, node_count, reads_of, writes_of}
use Rattle.mk_jobs.specs.Recipes.{is_live_node}
use Rattle.mk_jobs.specs.Shape.{AreNamed, IsRising, IsWellFormed}
use Rattle.mk_jobs.proofs.Accessors.{live_is, needs_smaller, same_place}
use Rattle.mk_jobs.proofs.JobsLemmas.{live_node}
use Rattle.mk_foot.specs.Footprints.{in_order}
use Rattle.mk_foot.proofs.AttachNodes.{rising_nil}
use Rattle.mk_task.specs.Good.{AreGood, IsPlain, StandBehind}
use Rattle.mk_task.specs.JobsOf.{jobs_of, node_of, own_name}
use Rattle.mk_task.specs.Tasks.{Task, edge_count, labels_of}
use Rattle.mk_task.proofs.Apart.{covers_none, order_named}

-- what stands past the last task
nothing : Task
nothing = record { label = []; needs = []; reads = []; writes = [] }

has_own : (tasks : List Task) (label : Name) → has same_name (names_of (map node_of tasks)) (own_name label) ≡ has same_name (labels_of tasks) label
has_own [] label = refl
has_own (t ∷ tasks) label = rw (has_own tasks label) refl

pub names_differ : (tasks : List Task) → IsDistinct same_name (labels_of tasks) → IsDistinct same_name (names_of (map node_of tasks))
names_differ [] d = tt
names_differ (t ∷ tasks) d = (has_own tasks t.label ∙ d.0, names_differ tasks d.1)

pub edges_same : (tasks : List Task) → plans.edge_count (map node_of tasks) ≡ edge_count tasks
edges_same [] = refl
edges_same (t ∷ tasks) =
    sum_by-cons (λ (n : Node). length n.prerequisites) (node_of t) (map node_of tasks)
    ∙ ap (λ k. length t.needs + k) (edges_same tasks)
    ∙ sym (sum_by-cons (λ (u : Task). length u.needs) t tasks)

pub needs_before : (tasks : List Task) → StandBehind tasks → NeedsStandBefore (map node_of tasks)
needs_before tasks behind i p d below here =
    let inside : i < length tasks = omega (arith, below, length-map tasks node_of) in
    behind i p nothing inside (subst (λ (n : Node). IsTrue (has nat_eq n.prerequisites p)) (get_or-map node_of tasks i nothing d inside) here)

all_at : {X : Type 0} (P : X → Type 0) (xs : List X) (n : ℕ) (d : X) → All P xs → n < length xs → P (get_or xs n d)
all_at P [] n d all below = absurd (omega (arith, below))
all_at P (x ∷ xs) ℕ.zero d all below = All-head P x xs all
all_at P (x ∷ xs) (ℕ.suc n) d all below = all_at P xs n d (All-tail P x xs all) (omega (arith, below))

module _ (root : List ℕ) (tasks : List Task) (good : AreGood root tasks)
    (reads_rise : All IsRising (map (λ (t : Task). in_order t.reads) tasks)) (writes_rise : All IsRising (map (λ (t : Task). in_order t.writes) tasks)) where
  jobs : Jobs
  jobs = jobs_of root tasks

  count_is : node_count jobs ≡ length tasks
  unfolding node_count jobs
  count_is = length-map tasks node_of

  row_at : (f : Task → List Path) (n : ℕ) → n < length tasks → unwrap_or (slice_get (map f tasks) n) [] ≡ f (get_or tasks n nothing)
  row_at f n below = unwrap_or-slice_get (map f tasks) n [] ∙ get_or-map f tasks n nothing [] below

  row_past : (f : Task → List Path) (n : ℕ) → length tasks ≤ n → unwrap_or (slice_get (map f tasks) n) [] ≡ []
  row_past f n past = ap (λ o. unwrap_or o []) (slice_get_past (map f tasks) n (omega (arith, past, length-map tasks f)))

  -- what holds of each row, and of no paths, holds of the row of any number
  each_row : (P : List Path → Type 0) (f : Task → List Path) → ((n : ℕ) → n < length tasks → P (f (get_or tasks n nothing))) → P [] → (n : ℕ) → P (unwrap_or (slice_get (map f tasks) n) [])
  each_row P f here none n = elim (cases_lt n (length tasks)) [
    | inl below ↦ subst P (sym (row_at f n below)) (here n below)
    | inr past ↦ subst P (sym (row_past f n past)) none
  ]

  rise : (f : Task → List Path) → All IsRising (map f tasks) → (n : ℕ) → n < length tasks → IsRising (f (get_or tasks n nothing))
  rise f all n below = subst IsRising (get_or-map f tasks n nothing [] below) (all_at IsRising (map f tasks) n [] all (omega (arith, below, length-map tasks f)))

  plain : (n : ℕ) → n < length tasks → IsPlain root (get_or tasks n nothing)
  plain n below = all_at (IsPlain root) tasks n nothing good.plain below

  name_is : (n : ℕ) → n < length tasks → name_of jobs n ≡ own_name (get_or tasks n nothing).label
  unfolding jobs name_of
  name_is n below =
      ap (λ (d : Node). d.name) (unwrap_or-slice_get (map node_of tasks) n nobody)
      ∙ ap (λ (d : Node). d.name) (get_or-map node_of tasks n nothing nobody below)

  live_at : (n : ℕ) → n < length tasks → is_live jobs n ≡ true
  unfolding jobs
  live_at n below =
      sym (live_is jobs n) ∙ ap is_live_node (unwrap_or-slice_get (map node_of tasks) n nobody ∙ get_or-map node_of tasks n nothing nobody below)

  idle_none : (f : Task → List Path) (n : ℕ) → is_live jobs n ≡ false → unwrap_or (slice_get (map f tasks) n) [] ≡ []
  idle_none f n idle = elim (cases_lt n (length tasks)) [
    | inl below ↦ absurd (both_ways _ idle (live_at n below))
    | inr past ↦ row_past f n past
  ]

  own_none : (n m : ℕ) → m < node_count jobs → may_write jobs n (name_of jobs m) ≡ true → name_of jobs n ≡ name_of jobs m
  unfolding may_write jobs writes_of
  own_none n m below writes =
      let parts = and_parts _ _ writes in
      let n_below : n < length tasks = subst (λ k. n < k) count_is (live_node jobs n parts.0) in
      let m_below : m < length tasks = subst (λ k. m < k) count_is below in
      let none : covered root (unwrap_or (slice_get (map (λ (t : Task). in_order t.writes) tasks) n) []) (name_of jobs m) ≡ false =
      ap (covered root _) (name_is m m_below)
      ∙ ap (λ ws. covered root ws (own_name (get_or tasks m nothing).label)) (row_at (λ (t : Task). in_order t.writes) n n_below)
      ∙ covers_none root (get_or tasks m nothing).label (get_or tasks n nothing).writes (plain n n_below).apart in
      absurd (both_ways _ none parts.1)

  all_rows : (f : Task → List Path) → length (map f tasks) ≡ node_count jobs
  all_rows f = length-map tasks f ∙ sym count_is

  pub shape : IsWellFormed (jobs_of root tasks)
  unfolding jobs reads_of writes_of
  shape = record {
    few = omega (arith, count_is, good.few);
    few_edges = omega (arith, edges_same tasks, good.few_edges);
    distinct = same_place (jobs_of root tasks) (names_differ tasks good.distinct);
    smaller = needs_smaller (jobs_of root tasks) (needs_before tasks good.behind);
    all_reads = all_rows (λ (t : Task). in_order t.reads);
    all_writes = all_rows (λ (t : Task). in_order t.writes);
    reads_rise = each_row IsRising (λ (t : Task). in_order t.reads) (rise (λ (t : Task). in_order t.reads) reads_rise) rising_nil;
    writes_rise = each_row IsRising (λ (t : Task). in_order t.writes) (rise (λ (t : Task). in_order t.writes) writes_rise) rising_nil;
    reads_named = each_row AreNamed (λ (t : Task). in_order t.reads) (λ n below. order_named (get_or tasks n nothing).reads (plain n below).reads_named) (All-nil _);
    writes_named = each_row AreNamed (λ (t : Task). in_order t.writes) (λ n below. order_named (get_or tasks n nothing).writes (plain n below).writes_named) (All-nil _);
    no_reads = idle_none (λ (t : Task). in_order t.reads);
    no_writes = idle_none (λ (t : Task). in_order t.writes);
    own = own_none;
  }
