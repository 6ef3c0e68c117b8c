-- The trace of a race passes the test.
use Rattle.std.proofs.Common.{ℕ, zero, suc, ◌≡◌, ◌<◌, ◌≤◌, ◌+◌, ◌-◌, ◌⊎◌, ◌&&◌, ◌||◌, ◌++◌, not, Bool, true, false, List, [], ◌∷◌, map, length, Option, Some, None, is_some, unwrap_or, inl, inr, refl, sym, ap, ◌∙◌, subst, Contains, arith, lt_trans, ne_eqb, eq-eqb, if◌then◌else◌}
use mathlib.Core.List.{reverse_aux}
use Rattle.std.specs.List.{list_all, list_any}
use Rattle.std.proofs.lemmas.Bool.{cases_eq, cases_lt, and_parts, and_from, or_left, or_right, not-true, not-false, not_from_false, false≢true, true≢false, false_from_ne_true, lt-ltb}
use Rattle.std.proofs.lemmas.List.Elements.{Contains-append_right}
use Rattle.std.proofs.lemmas.Option.{slice_get_past}
use Rattle.mk_jobs.specs.Jobs.{Jobs, IsValid, IsPrerequisite, Before, edge, further, node_count, prerequisites_of, has_recipe, is_phony, is_listed, is_empty, is_idle, is_live}
use Rattle.mk_jobs.proofs.JobsLemmas.{before_less}
use Rattle.mk_sched.specs.Events.{Event, Phase, Waiting, Running, Skipped, Ran, phase, is_passed, is_running, count_to, running_below}
use Rattle.mk_sched.specs.Sure.{surely_stale}
use Rattle.mk_sched.proofs.Basics.{split}
use Rattle.mk_cert.specs.Traces.{AreOfListed, event_of, time_of, time_at}
use Rattle.mk_cert.specs.Sure.{surely_fresh, is_waiting, is_ready, passes, all_pass}
use Rattle.mk_cert.specs.Races.{ReportsEarly, passing, early_steps, falling_times}
use Rattle.mk_cert.specs.Laws.{RaceTraceIsSure, RaceTraceHolds}
use Rattle.mk_proof.specs.declared.step.Step.{Step}
use Rattle.mk_proof.specs.declared.step.Step.TheVariants.{Start}
use Rattle.mk_cert.proofs.Clashing.{apart, both_live, start_moves}
use Rattle.mk_cert.proofs.Sound.{holds}

-- ---- lists

-- a test that each element passes
list_all-from : {X : Type 0} (p : X → Bool) (xs : List X) → ((x : X) → Contains xs x → p x ≡ true) → list_all p xs ≡ true
list_all-from p [] all = refl
list_all-from p (x ∷ xs) all = and_from (p x) (list_all p xs) (all x (0, omega arith, refl))
    (list_all-from p xs (λ y inside. all y (Contains-append_right (x ∷ []) xs y inside)))

-- a list with an element, all of whose elements pass
some_found : (p : ℕ → Bool) (xs : List ℕ) → is_empty xs ≡ false → ((x : ℕ) → Contains xs x → p x ≡ true) → list_any p xs ≡ true
some_found p [] some all = absurd (true≢false some)
some_found p (x ∷ xs) some all = or_left (p x) (list_any p xs) (all x (0, omega arith, refl))

none_fails : (p : ℕ → Bool) (xs : List ℕ) → is_empty xs ≡ true → list_all p xs ≡ true
none_fails p [] none = refl
none_fails p (x ∷ xs) none = absurd (false≢true none)

-- a test that nothing passes counts nothing
count_none : (test : ℕ → Bool) (n : ℕ) → ((k : ℕ) → test k ≡ false) → count_to test n ≡ 0
count_none test zero none = refl
count_none test (suc n) none = rw (none n) (count_none test n none)

-- an edge in front of a chain
before_first : {jobs : Jobs} {a b c : ℕ} → IsPrerequisite jobs a b → Before jobs b c → Before jobs a c
before_first step (edge p) = further (edge step) p
before_first step (further chain p) = further (before_first step chain) p

-- what is listed is a node
pub listed_node : (jobs : Jobs) (n : ℕ) → is_listed jobs n ≡ true → n < node_count jobs
unfolding node_count is_listed
listed_node jobs n listed = elim (cases_lt n (length jobs.plan.nodes)) [
  | inl below ↦ below
  | inr past ↦ absurd (false≢true (rw (slice_get_past jobs.plan.nodes n past, is_listed) at listed))
]

-- ---- times that fall

-- a node that is not listed has none
no_time : (jobs : Jobs) (n m left : ℕ) → is_listed jobs n ≡ false → time_of (falling_times jobs m left) n ≡ None
no_time jobs n m zero unlisted = refl
no_time jobs n m (suc left) unlisted = split (is_listed jobs m)
    (λ listed. rw (listed, ne_eqb m n (λ same. false≢true (sym unlisted ∙ (ap (is_listed jobs) (sym same) ∙ listed)))) (no_time jobs n (suc m) left unlisted))
    (λ skipped. rw skipped (no_time jobs n (suc m) left unlisted))

-- a listed one has the number of nodes that are left there
falls : (jobs : Jobs) (n m left : ℕ) → is_listed jobs n ≡ true → m ≤ n → n < m + left → time_of (falling_times jobs m left) n ≡ Some (m + left - n)
falls jobs n m zero listed from below = absurd (omega arith)
falls jobs n m (suc left) listed from below = elim (cases_eq m n) [
  | inl same ↦
      let here : is_listed jobs m ≡ true = ap (is_listed jobs) same ∙ listed in
      rw (here, eq-eqb m n same) (ap Some (omega arith))
  | inr other ↦
      let rest = falls jobs n (suc m) left listed (omega arith) (omega arith) in
      let same : suc m + left - n ≡ m + suc left - n = omega arith in
      split (is_listed jobs m)
      (λ here. rw (here, ne_eqb m n other) (rest ∙ ap Some same))
      (λ skipped. rw skipped (rest ∙ ap Some same))
]

abbrev falling : Jobs → List (ℕ × ℕ)
falling jobs = falling_times jobs 0 (node_count jobs)

found : (jobs : Jobs) (n : ℕ) → is_listed jobs n ≡ true → time_of (falling jobs) n ≡ Some (0 + node_count jobs - n)
found jobs n listed = let below = listed_node jobs n listed in falls jobs n 0 (node_count jobs) listed (omega arith) (omega arith)

of_listed : (jobs : Jobs) → AreOfListed jobs (falling jobs)
of_listed jobs n = split (is_listed jobs n)
    (λ listed. ap is_some (found jobs n listed) ∙ sym listed)
    (λ unlisted. ap is_some (no_time jobs n 0 (node_count jobs) unlisted) ∙ sym unlisted)

-- of two listed nodes the smaller one has the later time
later : (jobs : Jobs) (n p : ℕ) → is_listed jobs n ≡ true → is_listed jobs p ≡ true → p < n → time_at (falling jobs) n < time_at (falling jobs) p
later jobs n p listed_n listed_p less =
    let time_n : time_at (falling jobs) n ≡ 0 + node_count jobs - n = ap (λ (o : Option ℕ). unwrap_or o 0) (found jobs n listed_n) in
    let time_p : time_at (falling jobs) p ≡ 0 + node_count jobs - p = ap (λ (o : Option ℕ). unwrap_or o 0) (found jobs p listed_p) in
    let below = listed_node jobs n listed_n in
    omega arith

-- by these times a live node is surely stale
live_stale : (jobs : Jobs) (n : ℕ) → IsValid jobs → is_live jobs n ≡ true → surely_stale jobs (time_at (falling jobs)) n ≡ true
live_stale jobs n valid live = split (is_phony jobs n)
    (λ phony. or_left _ _ (or_left (is_phony jobs n) (not (is_listed jobs n)) phony))
    (λ unphony. split (is_listed jobs n)
    (λ listed. or_right _ _ (some_found _ (prerequisites_of jobs n) (has_some unphony listed) (λ p step. split (is_phony jobs p)
    (λ phony. or_left _ _ (or_left (is_phony jobs p) (not (is_listed jobs p)) phony))
    (λ unphony_p. split (is_listed jobs p)
    (λ listed_p. or_right _ _ (lt-ltb _ _ (later jobs n p listed listed_p (valid.smaller n p step))))
    (λ unlisted. or_left _ _ (or_right (is_phony jobs p) (not (is_listed jobs p)) (not_from_false _ unlisted)))))))
    (λ unlisted. or_left _ _ (or_right (is_phony jobs n) (not (is_listed jobs n)) (not_from_false _ unlisted))))
  where
    has_some : is_phony jobs n ≡ false → is_listed jobs n ≡ true → is_empty (prerequisites_of jobs n) ≡ false
    has_some unphony listed =
        let two = and_parts (has_recipe jobs n) (not (is_idle jobs n)) live in
        false_from_ne_true _ (λ none. false≢true (sym (not-true _ two.1)
        ∙ and_from _ _ (and_from _ _ (and_from _ _ two.0 listed) (not_from_false _ unphony)) none))

-- any other has no recipe or is surely fresh
dead_fresh : (jobs : Jobs) (times : ℕ → ℕ) (phases : ℕ → Phase) (n : ℕ) → is_live jobs n ≡ false → not (has_recipe jobs n) || surely_fresh jobs times phases n ≡ true
dead_fresh jobs times phases n dead = split (has_recipe jobs n)
    (λ made. or_right _ _ (idle_fresh (not-false _ (sym (ap (λ b. b && not (is_idle jobs n)) made) ∙ dead))))
    (λ unmade. or_left _ _ (not_from_false _ unmade))
  where
    idle_fresh : is_idle jobs n ≡ true → surely_fresh jobs times phases n ≡ true
    idle_fresh idle =
        let three = and_parts (has_recipe jobs n && is_listed jobs n && not (is_phony jobs n)) (is_empty (prerequisites_of jobs n)) idle in
        let two = and_parts (has_recipe jobs n && is_listed jobs n) (not (is_phony jobs n)) three.0 in
        let one = and_parts (has_recipe jobs n) (is_listed jobs n) two.0 in
        and_from _ _ (and_from _ _ one.1 two.1) (none_fails _ (prerequisites_of jobs n) three.1)

-- ---- steps that pass in turn

-- the past behind these steps
abbrev onto : List Step → List Event → List Event
onto steps past = reverse_aux (map event_of steps) past

onto_both : (xs ys : List Step) (past : List Event) → onto (xs ++ ys) past ≡ onto ys (onto xs past)
onto_both [] ys past = refl
onto_both (step ∷ xs) ys past = onto_both xs ys (event_of step ∷ past)

module _ (jobs : Jobs) (times : ℕ → ℕ) where
  -- each step passes behind those before it
  abbrev InTurn : List Event → List Step → Type 0
  InTurn past [] = Unit {0}
  InTurn past (step ∷ steps) = (passes jobs times (phase past) step ≡ true) × InTurn (event_of step ∷ past) steps

  turns_both : (xs ys : List Step) (past : List Event) → InTurn past xs → InTurn (onto xs past) ys → InTurn past (xs ++ ys)
  turns_both [] ys past one other = other
  turns_both (step ∷ xs) ys past one other = (one.0, turns_both xs ys (event_of step ∷ past) one.1 other)

  to_end : (first second : ℕ) (steps : List Step) (past : List Event) → InTurn past steps
      → is_running (phase (onto steps past) first) ≡ true → is_running (phase (onto steps past) second) ≡ true → all_pass jobs times first second past steps ≡ true
  to_end first second [] past turns one other = and_from _ _ one other
  to_end first second (step ∷ steps) past turns one other = and_from _ _ turns.0 (to_end first second steps (event_of step ∷ past) turns.1 one other)

  -- the test of readiness from its parts
  ready_from : (past : List Event) (n : ℕ) → n < node_count jobs → phase past n ≡ Waiting
      → ((p : ℕ) → IsPrerequisite jobs p n → is_passed (phase past p) ≡ true) → is_ready jobs (phase past) n ≡ true
  ready_from past n below waits passed = and_from _ _ (and_from _ _ (lt-ltb _ _ below) (ap is_waiting waits))
      (list_all-from (λ p. is_passed (phase past p)) (prerequisites_of jobs n) passed)

  start_passes : (past : List Event) (n : ℕ) → is_ready jobs (phase past) n ≡ true → is_live jobs n ≡ true → surely_stale jobs times n ≡ true
      → running_below past (node_count jobs) < 2 → passes jobs times (phase past) (Start n) ≡ true
  start_passes past n ready live stale room =
      and_from _ _ (and_from _ _ (and_from _ _ ready (and_parts (has_recipe jobs n) (not (is_idle jobs n)) live).0) stale) (lt-ltb _ _ room)

-- a node more that passes: the others are as they were, and it has passed
passing_other : (jobs : Jobs) (n k : ℕ) (past : List Event) → (n ≡ k → ⊥) → phase (onto (passing jobs n) past) k ≡ phase past k
passing_other jobs n k past other = split (is_live jobs n)
    (λ live. rw (live, ne_eqb n k other) refl)
    (λ dead. rw (dead, ne_eqb n k other) refl)

passing_own : (jobs : Jobs) (n : ℕ) (past : List Event) → is_passed (phase (onto (passing jobs n) past) n) ≡ true
passing_own jobs n past = split (is_live jobs n)
    (λ live. rw (live, eq-eqb n n refl) refl)
    (λ dead. rw (dead, eq-eqb n n refl) refl)

not_running : (p : Phase) → is_passed p ≡ true → is_running p ≡ false
not_running Waiting passed = refl
not_running Running passed = sym passed
not_running Skipped passed = refl
not_running Ran passed = refl

-- a node passes where it waits, its prerequisites have passed, and nobody runs
passing_turns : (jobs : Jobs) (past : List Event) (n : ℕ) → IsValid jobs → n < node_count jobs → phase past n ≡ Waiting
    → ((p : ℕ) → IsPrerequisite jobs p n → is_passed (phase past p) ≡ true) → ((k : ℕ) → is_running (phase past k) ≡ false)
    → InTurn jobs (time_at (falling jobs)) past (passing jobs n)
passing_turns jobs past n valid below waits passed rests =
    let times : ℕ → ℕ = time_at (falling jobs) in
    let ready = ready_from jobs times past n below waits passed in
    let none : running_below past (node_count jobs) ≡ 0 = count_none (λ k. is_running (phase past k)) (node_count jobs) rests in
    split (is_live jobs n)
    (λ live. rw live (
      start_passes jobs times past n ready live (live_stale jobs n valid live) (omega arith),
      (and_from _ _ (lt-ltb _ _ below) (rw (eq-eqb n n refl) refl), tt),
    ))
    (λ dead. rw dead (and_from _ _ ready (dead_fresh jobs times (phase past) n dead), tt))

-- ---- the early nodes

module _ (jobs : Jobs) (early : ℕ → Bool) where
  -- the past that the early nodes below n leave
  early_past : ℕ → List Event
  early_past zero = []
  early_past (suc n) = if early n then onto (passing jobs n) (early_past n) else early_past n

  early_is : (n : ℕ) → onto (early_steps jobs early n) [] ≡ early_past n
  unfolding early_past
  early_is zero = refl
  early_is (suc n) = onto_both (early_steps jobs early n) (if early n then passing jobs n else []) [] ∙ split (early n)
      (λ here. rw here (ap (onto (passing jobs n)) (early_is n)))
      (λ other. rw other (early_is n))

  passed : (n k : ℕ) → early k ≡ true → k < n → is_passed (phase (early_past n) k) ≡ true
  unfolding early_past
  passed zero k is below = absurd (omega arith)
  passed (suc n) k is below = elim (cases_eq n k) [
    | inl same ↦ rw (ap early same ∙ is) (subst (λ m. is_passed (phase (onto (passing jobs n) (early_past n)) m) ≡ true) same (passing_own jobs n (early_past n)))
    | inr other ↦
        let rest = passed n k is (omega arith) in
        split (early n)
        (λ here. rw (here, passing_other jobs n k (early_past n) other) rest)
        (λ late. rw late rest)
  ]

  waits : (n k : ℕ) → (early k ≡ false) ⊎ (n ≤ k) → phase (early_past n) k ≡ Waiting
  unfolding early_past
  waits zero k out = refl
  waits (suc n) k out =
      let rest = waits n k (elim out [ inl late ↦ inl late | inr past ↦ inr (omega arith) ]) in
      split (early n)
      (λ here. rw here (passing_other jobs n k (early_past n) (λ same. elim out [
        | inl late ↦ false≢true (sym late ∙ (ap early (sym same) ∙ here))
        | inr past ↦ absurd (omega arith)
      ]) ∙ rest))
      (λ late. rw late rest)

  rests : (n k : ℕ) → is_running (phase (early_past n) k) ≡ false
  rests n k = split (early k)
      (λ is. elim (cases_lt k n) [
        | inl below ↦ not_running _ (passed n k is below)
        | inr above ↦ ap is_running (waits n k (inr above))
      ])
      (λ late. ap is_running (waits n k (inl late)))

  module _ (first second : ℕ) (valid : IsValid jobs) (reports : ReportsEarly jobs first second early) where
    -- what an early node needs is early
    needed_early : (n p : ℕ) → early n ≡ true → IsPrerequisite jobs p n → early p ≡ true
    needed_early n p is step = elim ((reports n).0 is) [
      | inl before ↦ (reports p).1 (inl (before_first step before))
      | inr before ↦ (reports p).1 (inr (before_first step before))
    ]

    early_turns : (n : ℕ) → n ≤ node_count jobs → InTurn jobs (time_at (falling jobs)) [] (early_steps jobs early n)
    early_turns zero few = tt
    early_turns (suc n) few = turns_both jobs (time_at (falling jobs)) (early_steps jobs early n) (if early n then passing jobs n else []) [] (early_turns n (omega arith))
        (subst (λ (past : List Event). InTurn jobs (time_at (falling jobs)) past (if early n then passing jobs n else [])) (sym (early_is n)) (split (early n)
        (λ is. rw is (passing_turns jobs (early_past n) n valid (omega arith) (waits n n (inr (omega arith)))
        (λ p step. passed n p (needed_early n p is step) (valid.smaller n p step)) (rests n)))
        (λ late. rw late tt)))

pub is_sure : RaceTraceIsSure
is_sure jobs early first second path valid clash not_before not_after reports =
    let live = both_live clash in
    let times : ℕ → ℕ = time_at (falling jobs) in
    let count : ℕ = node_count jobs in
    let past : List Event = early_past jobs early count in
    let late_first : early first ≡ false = false_from_ne_true _ (λ is. elim ((reports first).0 is) [
      | inl before ↦ absurd (let less = before_less valid before in omega arith)
      | inr before ↦ not_before before
    ]) in
    let late_second : early second ≡ false = false_from_ne_true _ (λ is. elim ((reports second).0 is) [
      | inl before ↦ not_after before
      | inr before ↦ absurd (let less = before_less valid before in omega arith)
    ]) in
    let one_waits = waits jobs early count first (inl late_first) in
    let two_waits = waits jobs early count second (inl late_second) in
    let none : running_below past count ≡ 0 = count_none (λ k. is_running (phase past k)) count (rests jobs early count) in
    let one_ready = ready_from jobs times past first live.first_node one_waits
    (λ p step. passed jobs early count p ((reports p).1 (inl (edge step))) (lt_trans (valid.smaller first p step) live.first_node)) in
    let one = start_passes jobs times past first one_ready live.first_live (live_stale jobs first valid live.first_live) (omega arith) in
    let next : List Event = event_of (Start first) ∷ past in
    let more : running_below next count ≡ suc (running_below past count) = start_moves jobs past first (lt-ltb _ _ live.first_node) one_waits in
    let two_ready = ready_from jobs times next second live.second_node (rw (ne_eqb first second (apart clash)) two_waits)
    (λ p step.
    let is : early p ≡ true = (reports p).1 (inr (edge step)) in
    rw (ne_eqb first p (λ same. false≢true (sym late_first ∙ (ap early same ∙ is))))
    (passed jobs early count p is (lt_trans (valid.smaller second p step) live.second_node))) in
    let two = start_passes jobs times next second two_ready live.second_live (live_stale jobs second valid live.second_live) (omega arith) in
    let last : List Step = Start first ∷ Start second ∷ [] in
    let turns = turns_both jobs times (early_steps jobs early count) last [] (early_turns jobs early first second valid reports count (omega arith))
    (subst (λ (before : List Event). InTurn jobs times before last) (sym (early_is jobs early count)) (one, (two, tt))) in
    let end : onto (early_steps jobs early count ++ last) [] ≡ event_of (Start second) ∷ event_of (Start first) ∷ past =
    onto_both (early_steps jobs early count) last [] ∙ ap (onto last) (early_is jobs early count) in
    record {
      clash = clash;
      listed = of_listed jobs;
      steps = to_end jobs times first second (early_steps jobs early count ++ last) [] turns
          (rw end (rw (ne_eqb second first (λ same. apart clash (sym same)), eq-eqb first first refl) refl))
          (rw end (rw (eq-eqb second second refl) refl));
    }

pub race_holds : RaceTraceHolds
race_holds jobs early first second path valid clash not_before not_after reports =
    holds jobs _ valid (is_sure jobs early first second path valid clash not_before not_after reports)
