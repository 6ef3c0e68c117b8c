-- The table of allowed events, and runs.
use Rattle.std.proofs.Common.{ℕ, ◌≡◌, ◌⊎◌, ◌↔◌, ◌&&◌, ◌==◌, inl, inr, Bool, true, false, List, [], ◌∷◌, ◌++◌, reverse, refl, sym, ap, ◌∙◌, subst, eqb-true}
use Rattle.std.proofs.Math.Path.{fun_ext}
use mathlib.Core.List.{reverse_aux}
use Rattle.std.proofs.lemmas.Bool.{and_parts}
use Rattle.mk_name.specs.Names.{Name}
use Rattle.mk_jobs.specs.Jobs.{Jobs, has_recipe}
use Rattle.mk_sched.specs.Stores.{Store}
use Rattle.mk_sched.specs.Events.{Act, Skip, Start, Look, Put, Erase, Finish, Event, Phase, Waiting, Running, Skipped, Ran, phase, is_passed, is_running, written}
use Rattle.mk_sched.specs.Runs.{May, IsRun}
use Rattle.mk_sched.specs.Table.{State, start_from, changed, IsAllowed, AllowedInTurn, state_after, reported_by, StateIsReported, MayIsTable, RunsByTable}
use Rattle.mk_sched.specs.InTime.{GoesOn, InTime, BeginningIsRun}
use Rattle.mk_sched.proofs.Basics.{split}

-- a node that has neither passed nor runs waits
waits_if : (phase : Phase) → is_passed phase ≡ false → is_running phase ≡ false → phase ≡ Waiting
waits_if Waiting unpassed rests = refl
waits_if Running unpassed rests = cc
waits_if Skipped unpassed rests = cc
waits_if Ran unpassed rests = cc

runs_if : (phase : Phase) → is_running phase ≡ true → phase ≡ Running
runs_if Waiting runs = cc
runs_if Running runs = refl
runs_if Skipped runs = cc
runs_if Ran runs = cc

-- by cases on a conjunction that fails
and_fails : (x y : Bool) → x && y ≡ false → (x ≡ false) ⊎ (y ≡ false)
and_fails true y fails = inr fails
and_fails false y fails = inl refl

fails_and : (x y : Bool) → (x ≡ false) ⊎ (y ≡ false) → x && y ≡ false
fails_and true y (inl no_x) = cc
fails_and true y (inr no_y) = no_y
fails_and false y either = refl

stored : (s : State) (n : ℕ) (a : Act) (x : Name) → (changed s n a).store x ≡ written a x (s.store x)
stored s n Skip x = refl
stored s n Start x = refl
stored s n (Look path seen) x = refl
stored s n (Put path bytes time) x = refl
stored s n (Erase path) x = refl
stored s n Finish x = refl

module _ (jobs : Jobs) (tie : Bool) (limit : ℕ) (opening : Store) where
  -- what an act does to the two sets, it does to the phases of its node
  passed_by : (past : List Event) (m k : ℕ) (a : Act) → May jobs tie limit opening past m a → (changed (reported_by opening past) m a).passed k ≡ is_passed (phase (record { node = m; act = a } ∷ past) k)
  passed_by past m k Skip may = split (m == k) (λ own. rw own refl) (λ other. rw other refl)
  passed_by past m k Start may = split (m == k) (λ own. rw own (ap (λ n. is_passed (phase past n)) (sym (eqb-true m k own)) ∙ ap is_passed may.ready.waits)) (λ other. rw other refl)
  passed_by past m k (Look path seen) may = split (m == k) (λ own. rw own refl) (λ other. rw other refl)
  passed_by past m k (Put path bytes time) may = split (m == k) (λ own. rw own refl) (λ other. rw other refl)
  passed_by past m k (Erase path) may = split (m == k) (λ own. rw own refl) (λ other. rw other refl)
  passed_by past m k Finish may = split (m == k) (λ own. rw own refl) (λ other. rw other refl)

  running_by : (past : List Event) (m k : ℕ) (a : Act) → May jobs tie limit opening past m a → (changed (reported_by opening past) m a).running k ≡ is_running (phase (record { node = m; act = a } ∷ past) k)
  running_by past m k Skip may = split (m == k) (λ own. rw own (ap (λ n. is_running (phase past n)) (sym (eqb-true m k own)) ∙ ap is_running may.ready.waits)) (λ other. rw other refl)
  running_by past m k Start may = split (m == k) (λ own. rw own refl) (λ other. rw other refl)
  running_by past m k (Look path seen) may = split (m == k) (λ own. rw own refl) (λ other. rw other refl)
  running_by past m k (Put path bytes time) may = split (m == k) (λ own. rw own refl) (λ other. rw other refl)
  running_by past m k (Erase path) may = split (m == k) (λ own. rw own refl) (λ other. rw other refl)
  running_by past m k Finish may = split (m == k) (λ own. rw own refl) (λ other. rw other refl)

  -- a run leaves the state that it leads to
  pub state_is_reported : (past : List Event) → IsRun jobs tie limit opening past → state_after opening past ≡ reported_by opening past
  state_is_reported [] run = refl
  state_is_reported (e ∷ past) run =
      let earlier = ap (λ s. changed s e.node e.act) (state_is_reported past run.0) in
      let store = fun_ext (λ x. stored (reported_by opening past) e.node e.act x) in
      let passed = fun_ext (λ k. passed_by past e.node k e.act run.1) in
      let running = fun_ext (λ k. running_by past e.node k e.act run.1) in
      earlier ∙ (λ i. record { store = store i; passed = passed i; running = running i })

  -- what is allowed after a past is what the table allows in the state that it leads to
  to_table : (past : List Event) (n : ℕ) (a : Act) → May jobs tie limit opening past n a → IsAllowed jobs tie limit (reported_by opening past) n a
  to_table past n Skip may = (record { in_jobs = may.ready.in_jobs; not_passed = ap is_passed may.ready.waits; not_running = ap is_running may.ready.waits; prerequisites = may.ready.prerequisites }, and_fails _ _ may.fresh)
  to_table past n Start may =
      let both = and_parts _ _ may.stale in
      (record { in_jobs = may.ready.in_jobs; not_passed = ap is_passed may.ready.waits; not_running = ap is_running may.ready.waits; prerequisites = may.ready.prerequisites }, both.0, both.1, may.room)
  to_table past n (Look path seen) may = (ap is_running may.runs, may.reads, may.reports)
  to_table past n (Put path bytes time) may = (ap is_running may.runs, may.writes, may.newer)
  to_table past n (Erase path) may = (ap is_running may.runs, may.writes)
  to_table past n Finish may = ap is_running may

  from_table : (past : List Event) (n : ℕ) (a : Act) → IsAllowed jobs tie limit (reported_by opening past) n a → May jobs tie limit opening past n a
  from_table past n Skip allowed = record {
    ready = record { in_jobs = allowed.0.in_jobs; waits = waits_if _ allowed.0.not_passed allowed.0.not_running; prerequisites = allowed.0.prerequisites };
    fresh = fails_and (has_recipe jobs n) _ allowed.1;
  }
  from_table past n Start allowed = record {
    ready = record { in_jobs = allowed.0.in_jobs; waits = waits_if _ allowed.0.not_passed allowed.0.not_running; prerequisites = allowed.0.prerequisites };
    stale = rw (allowed.1, allowed.2) refl;
    room = allowed.3;
  }
  from_table past n (Look path seen) allowed = record { runs = runs_if _ allowed.0; reads = allowed.1; reports = allowed.2 }
  from_table past n (Put path bytes time) allowed = record { runs = runs_if _ allowed.0; writes = allowed.1; newer = allowed.2 }
  from_table past n (Erase path) allowed = record { runs = runs_if _ allowed.0; writes = allowed.1 }
  from_table past n Finish allowed = runs_if _ allowed

  pub may_to_table : (past : List Event) (n : ℕ) (a : Act) → IsRun jobs tie limit opening past → May jobs tie limit opening past n a → IsAllowed jobs tie limit (state_after opening past) n a
  may_to_table past n a run may = subst (λ s. IsAllowed jobs tie limit s n a) (sym (state_is_reported past run)) (to_table past n a may)

  pub table_to_may : (past : List Event) (n : ℕ) (a : Act) → IsRun jobs tie limit opening past → IsAllowed jobs tie limit (state_after opening past) n a → May jobs tie limit opening past n a
  table_to_may past n a run allowed = from_table past n a (subst (λ s. IsAllowed jobs tie limit s n a) (state_is_reported past run) allowed)

  -- in the order of time
  pub goes_on : (past events : List Event) → IsRun jobs tie limit opening (reverse_aux events past) → IsRun jobs tie limit opening past × GoesOn jobs tie limit opening past events
  goes_on past [] run = (run, tt)
  goes_on past (e ∷ events) run = let later = goes_on (e ∷ past) events run in (later.0.0, (later.0.1, later.1))

  pub went_on : (past events : List Event) → IsRun jobs tie limit opening past → GoesOn jobs tie limit opening past events → IsRun jobs tie limit opening (reverse_aux events past)
  went_on past [] run on = run
  went_on past (e ∷ events) run on = went_on (e ∷ past) events (run, on.0) on.1

  on_by_table : (past events : List Event) → IsRun jobs tie limit opening past → GoesOn jobs tie limit opening past events → AllowedInTurn jobs tie limit (state_after opening past) events
  on_by_table past [] run on = tt
  on_by_table past (e ∷ events) run on = (may_to_table past e.node e.act run on.0, on_by_table (e ∷ past) events (run, on.0) on.1)

  table_goes_on : (past events : List Event) → IsRun jobs tie limit opening past → AllowedInTurn jobs tie limit (state_after opening past) events → GoesOn jobs tie limit opening past events
  table_goes_on past [] run allowed = tt
  table_goes_on past (e ∷ events) run allowed =
      let may = table_to_may past e.node e.act run allowed.0 in
      (may, table_goes_on (e ∷ past) events (run, may) allowed.1)

  pub by_table : (events : List Event) → IsRun jobs tie limit opening (reverse events) ↔ AllowedInTurn jobs tie limit (start_from opening) events
  by_table events = (λ run. on_by_table [] events tt (goes_on [] events run).1, λ allowed. went_on [] events tt (table_goes_on [] events tt allowed))

  pub beginning : (newer past : List Event) → IsRun jobs tie limit opening (newer ++ past) → IsRun jobs tie limit opening past
  beginning [] past run = run
  beginning (e ∷ newer) past run = beginning newer past run.0

pub state_reported : StateIsReported
state_reported jobs tie limit opening = state_is_reported jobs tie limit opening

pub may_is_table : MayIsTable
may_is_table jobs tie limit opening past n a run = (may_to_table jobs tie limit opening past n a run, table_to_may jobs tie limit opening past n a run)

pub runs_by_table : RunsByTable
runs_by_table jobs tie limit opening = by_table jobs tie limit opening

pub in_time : InTime
in_time jobs tie limit opening events = (went_on jobs tie limit opening [] events tt, λ run. (goes_on jobs tie limit opening [] events run).1)

pub beginning_is_run : BeginningIsRun
beginning_is_run jobs tie limit opening = beginning jobs tie limit opening
