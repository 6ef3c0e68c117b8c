-- Tables of the times of a trace.
use Rattle.std.proofs.Common.{ℕ, zero, suc, ◌≡◌, ◌<◌, ◌≤◌, ◌==◌, ◌↔◌, Bool, true, List, [], ◌∷◌, Option, None, is_some, length, get_or, drop, refl, sym, ap, ◌∙◌, subst, arith, inl, inr, eq-eqb, unwrap_or, Contains}
use Rattle.std.proofs.Math.Path.{fun_ext}
use Rattle.std.proofs.lemmas.Bool.{cases_lt, false_from_ne_true}
use Rattle.std.proofs.lemmas.List.{drop_more, get_or_past}
use Rattle.std.proofs.lemmas.List.Elements.{Contains-get_or}
use Rattle.mk_proof.specs.Shapes.{Trace, trace_of}
use Rattle.mk_proof.specs.declared.step.Step.{Step}
use Rattle.mk_jobs.specs.Jobs.{Jobs, IsValid, is_listed, node_count, prerequisites_of}
use Rattle.mk_jobs.specs.Laws.{AreLive}
use Rattle.mk_sched.proofs.Basics.{split}
use Rattle.mk_cert.specs.Standing.{HoldsTimes, time_in}
use Rattle.mk_cert.specs.Sure.{IsSure, all_pass}
use Rattle.mk_cert.specs.Traces.{AreOfListed, ClashesOn, time_at, time_of}
use Rattle.mk_cert.proofs.Clashing.{both_live}
use Rattle.mk_cert.proofs.Racing.{listed_node}

-- who has a time among the last has one among all
some_in_drop : (i : ℕ) (times : List (ℕ × ℕ)) (n : ℕ) → is_some (time_of (drop i times) n) ≡ true → is_some (time_of times n) ≡ true
some_in_drop zero times n some = some
some_in_drop (suc i) [] n some = some
some_in_drop (suc i) (t ∷ times) n some = split (t.0 == n) (λ own. rw own refl) (λ other. rw other (some_in_drop i times n some))

-- the node of the time at a place has a time
pub some_at : (times : List (ℕ × ℕ)) (i : ℕ) (d : ℕ × ℕ) → i < length times → is_some (time_of times (get_or times i d).0) ≡ true
some_at times i d inside =
    let node = (get_or times i d).0 in
    some_in_drop i times node (ap (λ (ts : List (ℕ × ℕ)). is_some (time_of ts node)) (drop_more times i d inside) ∙ rw (eq-eqb node node refl) refl)

-- a test of the nodes is one of all numbers
pub all_listed : (jobs : Jobs) (table : List (Option ℕ)) → length table ≡ node_count jobs
    → ((n : ℕ) → n < node_count jobs → is_some (get_or table n None) ≡ is_listed jobs n) → (n : ℕ) → is_some (get_or table n None) ≡ is_listed jobs n
all_listed jobs table long nodes n = elim (cases_lt n (node_count jobs)) [
  | inl inside ↦ nodes n inside
  | inr past ↦
      ap is_some (get_or_past table n None (omega (arith, long)))
      ∙ sym (false_from_ne_true (is_listed jobs n) (λ listed. let below = listed_node jobs n listed in absurd (omega arith)))
]

-- the times of a table are those of the trace
pub by_table : (table : List (Option ℕ)) (times : List (ℕ × ℕ)) → HoldsTimes table times → time_in table ≡ time_at times
by_table table times reports = fun_ext (λ n. ap (λ (o : Option ℕ). unwrap_or o 0) (reports n))

-- what a node needs are nodes
pub needs_below : (jobs : Jobs) (n : ℕ) (needs : List ℕ) → IsValid jobs → n < node_count jobs → needs ≡ prerequisites_of jobs n
    → (k d : ℕ) → k < length needs → get_or needs k d < node_count jobs
needs_below jobs n needs valid below same k d inside =
    let there : Contains needs (get_or needs k d) = Contains-get_or needs k d inside in
    let less = valid.smaller n (get_or needs k d) (subst (λ (ps : List ℕ). Contains ps (get_or needs k d)) same there) in
    omega (arith, less, below)

-- ---- a trace

-- of a sure trace both nodes are there
pub nodes_there : (jobs : Jobs) (trace : Trace) → IsSure jobs trace → AreLive jobs trace.first trace.second
nodes_there jobs trace sure = both_live sure.clash

-- and no number past the nodes has a time
pub no_node_timed : (jobs : Jobs) (trace : Trace) (n : ℕ) → node_count jobs ≤ n → is_some (time_of trace.times n) ≡ true → IsSure jobs trace → ⊥
no_node_timed jobs trace n past some sure =
    let below = listed_node jobs n (sym (sure.listed n) ∙ some) in
    omega (arith, below, past)

-- the table of a sure trace has just the listed nodes
pub listed_of : (jobs : Jobs) (table : List (Option ℕ)) (times : List (ℕ × ℕ)) → HoldsTimes table times
    → AreOfListed jobs times → (n : ℕ) → is_some (get_or table n None) ≡ is_listed jobs n
listed_of jobs table times reports listed n = ap is_some (reports n) ∙ listed n

-- the last test, where all others were passed
pub sure_by : (jobs : Jobs) (trace : Trace) (table : List (Option ℕ)) (pass : Bool) → ClashesOn jobs trace.first trace.second trace.path
    → HoldsTimes table trace.times → ((n : ℕ) → is_some (get_or table n None) ≡ is_listed jobs n)
    → pass ≡ all_pass jobs (time_in table) trace.first trace.second [] trace.steps → (pass ≡ true) ↔ IsSure jobs trace
sure_by jobs trace table pass clash reports listed is =
    let same : pass ≡ all_pass jobs (time_at trace.times) trace.first trace.second [] trace.steps =
    is ∙ ap (λ (times : ℕ → ℕ). all_pass jobs times trace.first trace.second [] trace.steps) (by_table table trace.times reports) in (
      λ passes. record { clash = clash; listed = λ n. ap is_some (sym (reports n)) ∙ listed n; steps = sym same ∙ passes },
      λ sure. same ∙ sure.steps,
    )

-- a trace by its parts
pub by_parts : (trace : Trace) (first second : ℕ) (path : List ℕ) (times : List (ℕ × ℕ)) (steps : List Step) → first ≡ trace.first → second ≡ trace.second
    → path ≡ trace.path → times ≡ trace.times → steps ≡ trace.steps → trace_of first second path times steps ≡ trace
by_parts trace first second path times steps one two three four five = rw (one, two, three, four, five) refl
