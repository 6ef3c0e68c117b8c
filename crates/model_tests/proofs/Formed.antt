-- Rows of paths that fit make jobs of a plan.
use Rattle.std.proofs.Common.{ℕ, ◌≡◌, ◌==◌, ◌+◌, ◌<◌, ◌≤◌, true, List, [], Vec, length, get_or, refl, sym, ap, ◌∙◌, subst, inl, inr, arith}
use Rattle.std.specs.Global.{Global}
use Rattle.std.specs.Prelude.{unwrap_or}
use Rattle.std.specs.List.Sorted.{IsStrictlySortedBy}
use Rattle.std.proofs.lemmas.Bool.{and_parts, cases_lt, eqb-true, false≢true}
use Rattle.std.proofs.lemmas.List.{nil_from_length}
use Rattle.std.proofs.lemmas.List.Elements.{All-nil}
use Rattle.std.proofs.lemmas.Option.{slice_get_past}
use Rattle.mk_name.specs.Names.{IsDistinct, same_name}
use Rattle.mk_path.specs.declared.path.Path.{Path}
use Rattle.mk_path.specs.Paths.{covered}
use Rattle.mk_jobs.specs.Jobs.{Jobs, may_write, name_of, node_count, reads_of, writes_of}
use Rattle.mk_jobs.specs.Plan as plans
use Rattle.mk_jobs.specs.Plan.{NeedsStandBefore, Plan, edge_count, edge_limit, names_of, node_limit}
use Rattle.mk_jobs.specs.Rows.{with_rows}
use Rattle.mk_jobs.specs.Shape.{AreNamed, IsRising, IsWellFormed}
use Rattle.mk_jobs.proofs.Accessors.{live_is, needs_smaller, row_there, same_place}
use Rattle.mk_jobs.proofs.JobsLemmas.{live_node, writer_live}
use Rattle.model_tests.specs.Rows.{RowFits}

pub rising_nil : IsRising []
unfolding IsStrictlySortedBy
rising_nil = tt

-- what is known of the jobs of a plan: the rows of each node fit
pub record AreRowsFit (jobs : Jobs) (n : ℕ) : Type 0 where
  pub each : (k : ℕ) → k < n → RowFits jobs.plan jobs.root k (reads_of jobs k) (writes_of jobs k)

module _ (jobs : Jobs) (few : length jobs.plan.nodes ≤ node_limit) (few_edges : edge_count jobs.plan.nodes ≤ edge_limit)
    (distinct : IsDistinct same_name (names_of jobs.plan.nodes)) (rising : NeedsStandBefore jobs.plan.nodes)
    (all_reads : length jobs.reads ≡ length jobs.plan.nodes) (all_writes : length jobs.writes ≡ length jobs.plan.nodes)
    (fit : AreRowsFit jobs (length jobs.plan.nodes)) where
  count_is : node_count jobs ≡ length jobs.plan.nodes
  unfolding node_count
  count_is = refl

  reads_past : (n : ℕ) → length jobs.plan.nodes ≤ n → reads_of jobs n ≡ []
  unfolding reads_of
  reads_past n past = ap (λ o. unwrap_or o []) (slice_get_past jobs.reads n (omega arith))

  writes_past : (n : ℕ) → length jobs.plan.nodes ≤ n → writes_of jobs n ≡ []
  unfolding writes_of
  writes_past n past = ap (λ o. unwrap_or o []) (slice_get_past jobs.writes n (omega arith))

  covers_name : (n m : ℕ) → may_write jobs n (name_of jobs m) ≡ true → covered jobs.root (writes_of jobs n) (plans.node_at jobs.plan.nodes m).name ≡ true
  unfolding may_write name_of
  covers_name n m may = (and_parts _ _ may).1

  own_alone : (n m : ℕ) → m < node_count jobs → may_write jobs n (name_of jobs m) ≡ true → name_of jobs n ≡ name_of jobs m
  own_alone n m below may =
      let node = live_node jobs n (writer_live jobs n (name_of jobs m) may) in
      ap (name_of jobs) ((fit.each n (omega (arith, node, count_is))).alone m (omega (arith, below, count_is)) (covers_name n m may))

  few_nodes : node_count jobs ≤ node_limit
  unfolding node_count
  few_nodes = few

  pub formed : IsWellFormed jobs
  formed = record {
    few = few_nodes;
    few_edges = few_edges;
    distinct = same_place jobs distinct;
    smaller = needs_smaller jobs rising;
    all_reads = all_reads ∙ sym count_is;
    all_writes = all_writes ∙ sym count_is;
    reads_rise = λ n. elim (cases_lt n (length jobs.plan.nodes)) [
      | inl below ↦ (fit.each n below).reads_rise
      | inr past ↦ subst IsRising (sym (reads_past n past)) rising_nil
    ];
    writes_rise = λ n. elim (cases_lt n (length jobs.plan.nodes)) [
      | inl below ↦ (fit.each n below).writes_rise
      | inr past ↦ subst IsRising (sym (writes_past n past)) rising_nil
    ];
    reads_named = λ n. elim (cases_lt n (length jobs.plan.nodes)) [
      | inl below ↦ (fit.each n below).reads_named
      | inr past ↦ subst AreNamed (sym (reads_past n past)) (All-nil _)
    ];
    writes_named = λ n. elim (cases_lt n (length jobs.plan.nodes)) [
      | inl below ↦ (fit.each n below).writes_named
      | inr past ↦ subst AreNamed (sym (writes_past n past)) (All-nil _)
    ];
    no_reads = λ n idle. elim (cases_lt n (length jobs.plan.nodes)) [
      | inl below ↦ (fit.each n below).no_reads (live_is jobs n ∙ idle)
      | inr past ↦ reads_past n past
    ];
    no_writes = λ n idle. elim (cases_lt n (length jobs.plan.nodes)) [
      | inl below ↦ (fit.each n below).no_writes (live_is jobs n ∙ idle)
      | inr past ↦ writes_past n past
    ];
    own = own_alone;
  }

-- nothing read and nothing written fits each node
pub empty_fits : (plan : Plan) (root : List ℕ) (n : ℕ) (reads writes : List Path) → (length reads == 0) ≡ true → (length writes == 0) ≡ true → RowFits plan root n reads writes
empty_fits plan root n reads writes no_reads no_writes =
    let none : reads ≡ [] = nil_from_length reads (eqb-true (length reads) 0 no_reads) in
    let nothing : writes ≡ [] = nil_from_length writes (eqb-true (length writes) 0 no_writes) in
    subst (λ (ps : List Path). RowFits plan root n ps writes) (sym none) (subst (RowFits plan root n []) (sym nothing) (record {
      reads_rise = rising_nil;
      writes_rise = rising_nil;
      reads_named = All-nil _;
      writes_named = All-nil _;
      no_reads = λ dead. refl;
      no_writes = λ dead. refl;
      alone = λ m below covers. absurd (false≢true covers);
    }))

-- a row more
pub row_more : (jobs : Jobs) (n : ℕ) (reads writes : List Path) → AreRowsFit jobs n → reads ≡ reads_of jobs n → writes ≡ writes_of jobs n
    → RowFits jobs.plan jobs.root n reads writes → AreRowsFit jobs (n + 1)
row_more jobs n reads writes before reads_are writes_are fits = record {
  each = λ k below. elim (cases_lt k n) [
    | inl less ↦ before.each k less
    | inr past ↦
        subst (λ (m : ℕ). RowFits jobs.plan jobs.root m (reads_of jobs m) (writes_of jobs m)) (let e : n ≡ k = omega (arith, below, past) in e)
        (subst (λ (ps : List Path). RowFits jobs.plan jobs.root n ps (writes_of jobs n)) reads_are (subst (RowFits jobs.plan jobs.root n reads) writes_are fits))
  ];
}

-- a row by its number
pub reads_row : (plan : Plan) (root : List ℕ) (reads writes : List (Vec Path Global)) (n : ℕ) (row : Vec Path Global) → n < length reads → row ≡ get_or reads n row
    → row.items ≡ reads_of (with_rows plan root reads writes) n
unfolding reads_of
reads_row plan root reads writes n row below is = row_there reads n row below is

pub writes_row : (plan : Plan) (root : List ℕ) (reads writes : List (Vec Path Global)) (n : ℕ) (row : Vec Path Global) → n < length writes → row ≡ get_or writes n row
    → row.items ≡ writes_of (with_rows plan root reads writes) n
unfolding writes_of
writes_row plan root reads writes n row below is = row_there writes n row below is

pub fit_whole : (jobs : Jobs) (n count : ℕ) → count ≤ n → AreRowsFit jobs n → AreRowsFit jobs count
fit_whole jobs n count all fit = record { each = λ k below. fit.each k (omega arith) }
