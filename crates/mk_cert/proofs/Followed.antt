-- The steps of a trace that holds are a run, from a store that there is.
use Rattle.std.proofs.Common.{ℕ, zero, suc, ◌≡◌, ◌<◌, ◌≤◌, ◌&&◌, ◌++◌, Bool, true, false, List, [], ◌∷◌, map, reverse, Some, None, is_some, inl, inr, refl, sym, ap, ◌∙◌, subst, arith, if◌then◌else◌}
use mathlib.Core.List.{reverse_aux}
use Rattle.std.proofs.lemmas.Bool.{cases_eq, and_from, and_parts, false≢true}
use Rattle.std.proofs.lemmas.List.{append-nil, append_assoc, map_push, reverse-append}
use Rattle.mk_name.specs.Names.{same_name}
use Rattle.mk_jobs.specs.Jobs.{Jobs, Before, node_count, name_of, is_listed}
use Rattle.mk_jobs.specs.Shape.{IsWellFormed}
use Rattle.mk_sched.specs.Stores.{File, Store}
use Rattle.mk_sched.specs.Events.{Event, Running, phase, is_passed}
use Rattle.mk_sched.specs.Runs.{IsRun}
use Rattle.mk_sched.specs.Controls.{controls}
use Rattle.mk_sched.proofs.Basics.{split, is_begun, same_name-true, same_name-refl}
use Rattle.mk_sched.proofs.OneRun.{chain_passed}
use Rattle.mk_proof.specs.Shapes.{Trace}
use Rattle.mk_cert.specs.Traces.{Fits, TraceHolds, event_of, past_of, time_at}
use Rattle.mk_cert.specs.Laws.{HoldsForARun, StepsAreRun, StoreFits, TraceRefutes}
use Rattle.mk_proof.specs.declared.step.Step.{Step}
use Rattle.mk_proof.specs.declared.step.Step.TheVariants.{Skip, Start, Finish}
use Rattle.mk_cert.proofs.Clashing.{a_clash}

-- ---- steps as events

step_control : (step : Step) (past : List Event) → controls past ≡ past → controls (event_of step ∷ past) ≡ event_of step ∷ past
step_control (Skip n) past same = ap (λ (es : List Event). event_of (Skip n) ∷ es) same
step_control (Start n) past same = ap (λ (es : List Event). event_of (Start n) ∷ es) same
step_control (Finish n) past same = ap (λ (es : List Event). event_of (Finish n) ∷ es) same

controls_onto : (steps : List Step) (past : List Event) → controls past ≡ past
    → controls (reverse_aux (map event_of steps) past) ≡ reverse_aux (map event_of steps) past
controls_onto [] past same = same
controls_onto (step ∷ steps) past same = controls_onto steps (event_of step ∷ past) (step_control step past same)

-- steps are skips, starts and finishes
all_controls : (steps : List Step) → controls (past_of steps) ≡ past_of steps
all_controls steps = controls_onto steps [] refl

-- a step more is an event more
pub one_more : (steps : List Step) (step : Step) → past_of (steps ++ step ∷ []) ≡ event_of step ∷ past_of steps
one_more steps step = ap reverse (map_push event_of steps step) ∙ reverse-append (map event_of steps) (event_of step ∷ [])

-- a run of the steps so far goes on to a run of all
goes_on : (jobs : Jobs) (trace : Trace) (tie : Bool) (opening : Store) → TraceHolds jobs trace → Fits jobs trace.times opening
    → (done rest : List Step) → trace.steps ≡ done ++ rest → IsRun jobs tie 2 opening (past_of done) → IsRun jobs tie 2 opening (past_of trace.steps)
goes_on jobs trace tie opening holds fits done [] cut run =
    subst (λ (steps : List Step). IsRun jobs tie 2 opening (past_of steps)) (sym (cut ∙ append-nil done)) run
goes_on jobs trace tie opening holds fits done (next ∷ rest) cut run =
    let may = holds.allowed tie opening (past_of done) done next rest fits cut (record { run = run; steps_alone = all_controls done }) in
    goes_on jobs trace tie opening holds fits (done ++ next ∷ []) rest (cut ∙ sym (append_assoc done (next ∷ []) rest))
    (subst (IsRun jobs tie 2 opening) (sym (one_more done next)) (run, may))

pub are_run : StepsAreRun
are_run jobs trace tie opening holds fits =
    let run = goes_on jobs trace tie opening holds fits [] trace.steps refl tt in
    let both = holds.both_run tie opening (past_of trace.steps) fits (record { run = run; steps_alone = all_controls trace.steps }) in
    (run, both.0, both.1)

-- ---- a store

-- an empty file for each listed node below m
store_to : Jobs → (ℕ → ℕ) → ℕ → Store
store_to jobs times zero x = None
store_to jobs times (suc m) x = if is_listed jobs m && same_name (name_of jobs m) x then Some (record { bytes = []; time = times m }) else store_to jobs times m x

-- nothing stands at the name of a node that is not listed
absent : (jobs : Jobs) (times : ℕ → ℕ) (n m : ℕ) → IsWellFormed jobs → n < node_count jobs → m ≤ node_count jobs → is_listed jobs n ≡ false
    → store_to jobs times m (name_of jobs n) ≡ None
unfolding store_to
absent jobs times n zero shape inside few unlisted = refl
absent jobs times n (suc m) shape inside few unlisted = split (is_listed jobs m && same_name (name_of jobs m) (name_of jobs n))
    (λ hit. absurd (
    let two = and_parts (is_listed jobs m) (same_name (name_of jobs m) (name_of jobs n)) hit in
    let same : m ≡ n = shape.distinct m n (omega arith) inside (same_name-true _ _ two.1) in
    false≢true (sym unlisted ∙ (ap (is_listed jobs) (sym same) ∙ two.0))))
    (λ miss. rw miss (absent jobs times n m shape inside (omega arith) unlisted))

-- and its file at that of one that is
present : (jobs : Jobs) (times : ℕ → ℕ) (n m : ℕ) → IsWellFormed jobs → n < m → m ≤ node_count jobs → is_listed jobs n ≡ true
    → store_to jobs times m (name_of jobs n) ≡ Some (record { bytes = []; time = times n })
unfolding store_to
present jobs times n zero shape below few listed = absurd (omega arith)
present jobs times n (suc m) shape below few listed = split (is_listed jobs m && same_name (name_of jobs m) (name_of jobs n))
    (λ hit.
    let two = and_parts (is_listed jobs m) (same_name (name_of jobs m) (name_of jobs n)) hit in
    let same : m ≡ n = shape.distinct m n (omega arith) (omega arith) (same_name-true _ _ two.1) in
    rw hit (ap (λ (k : ℕ). Some (record { bytes = []; time = times k })) same))
    (λ miss. elim (cases_eq m n) [
      | inl same ↦ absurd (false≢true (sym miss ∙ and_from _ _ (ap (is_listed jobs) same ∙ listed)
          (ap (λ (k : ℕ). same_name (name_of jobs k) (name_of jobs n)) same ∙ same_name-refl (name_of jobs n))))
      | inr other ↦ rw miss (present jobs times n m shape (omega arith) (omega arith) listed)
    ])

pub fitting : StoreFits
fitting jobs times shape = (
  store_to jobs (time_at times) (node_count jobs),
  record {
    agrees = λ n inside. split (is_listed jobs n)
        (λ listed. ap is_some (present jobs (time_at times) n (node_count jobs) shape inside (omega arith) listed) ∙ sym listed)
        (λ unlisted. ap is_some (absent jobs (time_at times) n (node_count jobs) shape inside (omega arith) unlisted) ∙ sym unlisted);
    has_times = λ n file inside is. split (is_listed jobs n)
        (λ listed. let here = present jobs (time_at times) n (node_count jobs) shape inside (omega arith) listed in
        let same : record { bytes = []; time = time_at times n } ≡ file = cc in ap (λ (f : File). f.time) (sym same))
        (λ unlisted. let none = absent jobs (time_at times) n (node_count jobs) shape inside (omega arith) unlisted in cc);
  },
)

pub runs : HoldsForARun
runs jobs trace tie shape holds =
    let store = fitting jobs trace.times shape in
    let run = are_run jobs trace tie store.0 holds store.1 in
    (store.0, store.1, run.0, run.1, run.2)

-- ---- a race

-- of two nodes that run neither is before the other
not_before : (jobs : Jobs) (tie : Bool) (opening : Store) (past : List Event) (m n : ℕ) → IsRun jobs tie 2 opening past
    → phase past m ≡ Running → phase past n ≡ Running → Before jobs m n → ⊥
not_before jobs tie opening past m n run runs_m runs_n before =
    false≢true (sym (ap is_passed runs_m) ∙ chain_passed jobs tie 2 opening past m n run before (ap is_begun runs_n))

pub refutes : TraceRefutes
refutes jobs trace shape holds free =
    let store = fitting jobs trace.times shape in
    let end = are_run jobs trace true store.0 holds store.1 in
    elim (free trace.first trace.second (a_clash holds.clash)) [
      | inl before ↦ not_before jobs true store.0 (past_of trace.steps) trace.first trace.second end.0 end.1 end.2 before
      | inr after ↦ not_before jobs true store.0 (past_of trace.steps) trace.second trace.first end.0 end.2 end.1 after
    ]
