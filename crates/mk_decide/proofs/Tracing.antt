-- The trace of a race: its parts, and that they have the shape of those of a trace.
use Rattle.std.proofs.Common.{ℕ, zero, suc, ◌≡◌, ◌<◌, ◌≤◌, ◌+◌, ◌-◌, ◌⊎◌, ◌↔◌, ◌++◌, Bool, true, false, List, [], ◌∷◌, All, Contains, Less, get_or, length, sym, ap, ◌∙◌, subst, inl, inr, arith, if◌then◌else◌}
use Rattle.std.specs.Cmp.{nat_cmp_is}
use Rattle.std.specs.List.{AllByRecursion}
use Rattle.std.specs.List.Sorted.{IsStrictlySortedBy}
use Rattle.std.specs.Map.{keys_of}
use Rattle.std.specs.Ordering.{nat_cmp}
use Rattle.std.proofs.lemmas.Bool.{cases_lt, false≢true}
use Rattle.std.proofs.lemmas.List.{append_assoc, get_or_past, length-append}
use Rattle.std.proofs.lemmas.List.Elements.{All-append, All-cons, All-contains, All-nil, Contains-append_cases}
use Rattle.mk_path.specs.declared.path.Path.{Path}
use Rattle.mk_path.specs.Texts.{text_of}
use Rattle.mk_index.specs.Uses.{IsOverlap, ReachesPath}
use Rattle.mk_jobs.specs.Jobs.{Before, IsValid, Jobs, is_listed, is_live, node_count, reads_of, writes_of}
use Rattle.mk_jobs.specs.Plan.{node_limit}
use Rattle.mk_jobs.specs.Reaching.{uses_of}
use Rattle.mk_jobs.specs.Shape.{IsWellFormed}
use Rattle.mk_jobs.proofs.JobsLemmas.{before_less, clash_live}
use Rattle.mk_proof.specs.Shapes.{Trace, trace_of, AreShapedTimes, IsShapedTrace, greatest_node, greatest_time, node_of}
use Rattle.mk_proof.specs.declared.step.Step.{Step}
use Rattle.mk_proof.specs.declared.step.Step.TheVariants.{Finish, Skip, Start}
use Rattle.mk_sched.proofs.Basics.{split}
use Rattle.mk_cert.specs.Races.{IsOfRace, ReportsEarly, early_steps, falling_times, passing, race_trace}
use Rattle.mk_decide.specs.LeastTraces.{SpellsLeast}
use Rattle.mk_decide.specs.Races.{IsRace}

-- ---- the path

-- a path that a node touches has a name
touched_named : (jobs : Jobs) (n : ℕ) (p : Path) → IsWellFormed jobs → Contains (reads_of jobs n ++ writes_of jobs n) p → 1 ≤ length p.name
touched_named jobs n p shape there = elim (Contains-append_cases (reads_of jobs n) (writes_of jobs n) p there) [
  | inl reads ↦ All-contains (λ (q : Path). 1 ≤ length q.name) (reads_of jobs n) p (shape.reads_named n) reads
  | inr writes ↦ All-contains (λ (q : Path). 1 ≤ length q.name) (writes_of jobs n) p (shape.writes_named n) writes
]

reached_named : (jobs : Jobs) (a b : ℕ) (p : Path) → IsWellFormed jobs → ReachesPath (uses_of jobs) a b p → 1 ≤ length p.name
unfolding reads_of writes_of
reached_named jobs a b p shape reach = elim reach.touches [
  | inl writes ↦ touched_named jobs b p shape writes.1
  | inr reads ↦ All-contains (λ (q : Path). 1 ≤ length q.name) (writes_of jobs b) p (shape.writes_named b) reads.1
]

overlap_named : (jobs : Jobs) (a b : ℕ) (p : Path) → IsWellFormed jobs → IsOverlap (uses_of jobs) a b p → 1 ≤ length p.name
overlap_named jobs a b p shape (inl reach) = reached_named jobs a b p shape reach
overlap_named jobs a b p shape (inr reach) = reached_named jobs b a p shape reach

spelled_has : (p : Path) → 1 ≤ length p.name → 1 ≤ length (text_of p)
spelled_has p named = split p.tree
    (λ tree. rw tree (let long = length-append p.name (47 ∷ []) in omega arith))
    (λ file. rw file named)

-- ---- the times

-- a listed node has its time in front of the others, and any other has none
times_listed : (jobs : Jobs) (n count : ℕ) → n < count → is_listed jobs n ≡ true
    → falling_times jobs n (count - n) ≡ (n, count - n) ∷ falling_times jobs (n + 1) (count - (n + 1))
times_listed jobs n count below listed =
    let left : count - n ≡ suc (count - (n + 1)) = omega arith in
    let next : suc n ≡ n + 1 = omega arith in
    ap (falling_times jobs n) left ∙ rw listed (ap (λ m. (n, suc (count - (n + 1))) ∷ falling_times jobs m (count - (n + 1))) next)
    ∙ ap (λ t. (n, t) ∷ falling_times jobs (n + 1) (count - (n + 1))) (sym left)

times_unlisted : (jobs : Jobs) (n count : ℕ) → n < count → is_listed jobs n ≡ false → falling_times jobs n (count - n) ≡ falling_times jobs (n + 1) (count - (n + 1))
times_unlisted jobs n count below unlisted =
    let left : count - n ≡ suc (count - (n + 1)) = omega arith in
    let next : suc n ≡ n + 1 = omega arith in
    ap (falling_times jobs n) left ∙ rw unlisted (ap (λ m. falling_times jobs m (count - (n + 1))) next)

-- the times so far, and then those of the nodes that are left, are all of them
abbrev pub AreTimes : Jobs → List (ℕ × ℕ) → ℕ → ℕ → Type 0
AreTimes jobs times n count = times ++ falling_times jobs n (count - n) ≡ falling_times jobs 0 count

pub time_more : (jobs : Jobs) (old new : List (ℕ × ℕ)) (n count : ℕ) → n < count → is_listed jobs n ≡ true → new ≡ old ++ (n, count - n) ∷ []
    → AreTimes jobs old n count → AreTimes jobs new (n + 1) count
time_more jobs old new n count below listed is times =
    ap (λ ts. ts ++ falling_times jobs (n + 1) (count - (n + 1))) is ∙ append_assoc old ((n, count - n) ∷ []) (falling_times jobs (n + 1) (count - (n + 1)))
    ∙ ap (λ ts. old ++ ts) (sym (times_listed jobs n count below listed)) ∙ times

pub time_less : (jobs : Jobs) (old new : List (ℕ × ℕ)) (n count : ℕ) → n < count → is_listed jobs n ≡ false → new ≡ old → AreTimes jobs old n count → AreTimes jobs new (n + 1) count
time_less jobs old new n count below unlisted is times =
    ap (λ ts. ts ++ falling_times jobs (n + 1) (count - (n + 1))) is ∙ ap (λ ts. old ++ ts) (sym (times_unlisted jobs n count below unlisted)) ∙ times

keys_above : (jobs : Jobs) (m n left : ℕ) → m < n → AllByRecursion (λ y. nat_cmp m y ≡ Less) (keys_of (falling_times jobs n left))
keys_above jobs m n zero below = tt
keys_above jobs m n (suc left) below = split (is_listed jobs n)
    (λ listed. rw listed (sym (nat_cmp_is m n Less below), keys_above jobs m (suc n) left (omega arith)))
    (λ unlisted. rw unlisted (keys_above jobs m (suc n) left (omega arith)))

keys_rise : (jobs : Jobs) (n left : ℕ) → IsStrictlySortedBy nat_cmp (keys_of (falling_times jobs n left))
unfolding IsStrictlySortedBy
keys_rise jobs n zero = tt
keys_rise jobs n (suc left) = split (is_listed jobs n)
    (λ listed. rw listed (keys_above jobs n (suc n) left (omega arith), keys_rise jobs (suc n) left))
    (λ unlisted. rw unlisted (keys_rise jobs (suc n) left))

-- a node and a time of a trace
abbrev IsSmall : ℕ × ℕ → Type 0
IsSmall timed = (timed.0 ≤ greatest_node) × (timed.1 ≤ greatest_time)

times_small : (jobs : Jobs) (n left : ℕ) → n + left ≤ node_limit → All IsSmall (falling_times jobs n left)
times_small jobs n zero few = All-nil IsSmall
times_small jobs n (suc left) few = split (is_listed jobs n)
    (λ listed. rw listed (All-cons IsSmall (n, suc left) (falling_times jobs (suc n) left) (omega arith, omega arith) (times_small jobs (suc n) left (omega arith))))
    (λ unlisted. rw unlisted (times_small jobs (suc n) left (omega arith)))

times_shaped : (jobs : Jobs) (n left : ℕ) → n + left ≤ node_limit → AreShapedTimes (falling_times jobs n left)
times_shaped jobs n left few = record { rise = keys_rise jobs n left; small = times_small jobs n left few }

-- ---- the steps

-- a step of a node of a trace
abbrev IsOfNode : Step → Type 0
IsOfNode step = node_of step ≤ greatest_node

passing_shaped : (jobs : Jobs) (n : ℕ) → n < node_limit → All IsOfNode (passing jobs n)
passing_shaped jobs n below = split (is_live jobs n)
    (λ live. rw live (All-cons IsOfNode (Start n) (Finish n ∷ []) (omega arith) (All-cons IsOfNode (Finish n) [] (omega arith) (All-nil IsOfNode))))
    (λ dead. rw dead (All-cons IsOfNode (Skip n) [] (omega arith) (All-nil IsOfNode)))

early_shaped : (jobs : Jobs) (early : ℕ → Bool) (n : ℕ) → n ≤ node_limit → All IsOfNode (early_steps jobs early n)
early_shaped jobs early zero few = All-nil IsOfNode
early_shaped jobs early (suc n) few = All-append IsOfNode (early_steps jobs early n) (if early n then passing jobs n else []) (early_shaped jobs early n (omega arith))
    (split (early n)
    (λ is. rw is (passing_shaped jobs n (omega arith)))
    (λ late. rw late (All-nil IsOfNode)))

-- ---- early nodes

-- a table of all nodes has all numbers
pub reports_all : (jobs : Jobs) (first second n : ℕ) (early : List Bool) → IsValid jobs → first < node_count jobs → second < node_count jobs → node_count jobs ≤ n → length early ≡ n
    → ((k : ℕ) → k < n → (get_or early k false ≡ true) ↔ (Before jobs k first ⊎ Before jobs k second)) → ReportsEarly jobs first second (λ k. get_or early k false)
reports_all jobs first second n early valid first_node second_node all long reports k = elim (cases_lt k n) [
  | inl below ↦ reports k below
  | inr past ↦ (
    λ is. absurd (false≢true (sym (get_or_past early k false (omega arith)) ∙ is)),
    λ before. elim before [
      | inl chain ↦ let less = before_less valid chain in absurd (omega arith)
      | inr chain ↦ let less = before_less valid chain in absurd (omega arith)
    ],
  )
]

-- ---- the trace

trace_shaped : (jobs : Jobs) (early : ℕ → Bool) (first second : ℕ) (text : List ℕ) → IsWellFormed jobs → IsRace jobs first second → SpellsLeast jobs first second text
    → IsShapedTrace (race_trace jobs early first second text)
trace_shaped jobs early first second text shape race spells =
    let live = clash_live race.clash.1 in
    let few = shape.few in
    let node : (n : ℕ) → n < node_count jobs → n ≤ greatest_node = λ n below. omega arith in
    record {
      order = race.rises;
      second = node second live.second_node;
      path = subst (λ (t : List ℕ). 1 ≤ length t) (sym spells.spells) (spelled_has spells.path (overlap_named jobs first second spells.path shape spells.least.overlap));
      times = times_shaped jobs 0 (node_count jobs) (omega arith);
      steps = All-append IsOfNode (early_steps jobs early (node_count jobs)) (Start first ∷ Start second ∷ []) (early_shaped jobs early (node_count jobs) few)
          (All-cons IsOfNode (Start first) (Start second ∷ []) (node first live.first_node) (All-cons IsOfNode (Start second) [] (node second live.second_node) (All-nil IsOfNode)));
    }

of_that_race : (jobs : Jobs) (early : ℕ → Bool) (first second : ℕ) (text : List ℕ) → IsRace jobs first second → SpellsLeast jobs first second text
    → ReportsEarly jobs first second early → IsOfRace jobs (race_trace jobs early first second text)
of_that_race jobs early first second text race spells reports = record {
  early = early;
  path = spells.path;
  different = race.clash.1.different;
  overlap = spells.least.overlap;
  not_before = λ before. race.apart (inl before);
  not_after = λ after. race.apart (inr after);
  reports = reports;
  is = ap (λ t. race_trace jobs early first second t) spells.spells;
}

-- these times, and the steps by this table, are those of the race
pub record ArePartsOf (jobs : Jobs) (early : List Bool) (first second : ℕ) (times : List (ℕ × ℕ)) (steps : List Step) : Type 0 where
  pub times_are : times ≡ falling_times jobs 0 (node_count jobs)
  pub steps_are : steps ≡ early_steps jobs (λ n. get_or early n false) (node_count jobs) ++ Start first ∷ Start second ∷ []

parts_are : (jobs : Jobs) (early : List Bool) (first second : ℕ) (text : List ℕ) (times : List (ℕ × ℕ)) (steps : List Step) → ArePartsOf jobs early first second times steps
    → trace_of first second text times steps ≡ race_trace jobs (λ n. get_or early n false) first second text
parts_are jobs early first second text times steps parts = λ i. trace_of first second text (parts.times_are i) (parts.steps_are i)

pub parts_shaped : (jobs : Jobs) (early : List Bool) (first second : ℕ) (text : List ℕ) (times : List (ℕ × ℕ)) (steps : List Step) → IsWellFormed jobs
    → IsRace jobs first second → SpellsLeast jobs first second text → ArePartsOf jobs early first second times steps → IsShapedTrace (trace_of first second text times steps)
parts_shaped jobs early first second text times steps shape race spells parts =
    subst IsShapedTrace (sym (parts_are jobs early first second text times steps parts)) (trace_shaped jobs (λ n. get_or early n false) first second text shape race spells)

pub parts_of_race : (jobs : Jobs) (early : List Bool) (first second : ℕ) (text : List ℕ) (times : List (ℕ × ℕ)) (steps : List Step) (trace : Trace)
    → IsRace jobs first second → SpellsLeast jobs first second text → ReportsEarly jobs first second (λ n. get_or early n false)
    → ArePartsOf jobs early first second times steps → trace ≡ trace_of first second text times steps → IsOfRace jobs trace
parts_of_race jobs early first second text times steps trace race spells reports parts is =
    subst (IsOfRace jobs) (sym (is ∙ parts_are jobs early first second text times steps parts)) (of_that_race jobs (λ n. get_or early n false) first second text race spells reports)
