-- A trace that passes the test holds.
use Rattle.std.proofs.Common.{ℕ, ◌≡◌, ◌<◌, ◌&&◌, ◌||◌, ◌++◌, not, nat_lt, Bool, true, false, List, [], ◌∷◌, map, Option, Some, None, is_some, is_none, inl, inr, refl, sym, ap, ◌∙◌, subst, Contains, ltb-true, ne_eqb, arith, lt_trans}
use Rattle.std.proofs.Math.Path.{fun_ext}
use mathlib.Core.List.{reverse_aux}
use Rattle.std.specs.List.{list_all, list_any}
use Rattle.std.proofs.lemmas.Bool.{and_parts, and_from, and_left, and_right, or_cases, or_from, not-true, le-ltb}
use Rattle.std.proofs.lemmas.List.{append-nil}
use Rattle.std.proofs.lemmas.List.Elements.{All-contains, Contains-append_right}
use Rattle.std.proofs.lemmas.List.Sums.{AllPass-from_list_all}
use Rattle.mk_jobs.specs.Jobs.{Jobs, IsValid, node_count, name_of, prerequisites_of, has_recipe, is_phony, is_listed}
use Rattle.mk_sched.specs.Stores.{File, Store, AgreesWith, outdates, is_stale}
use Rattle.mk_sched.specs.Events.{Event, Phase, phase, is_passed, is_running, is_started, count_to, store_after}
use Rattle.mk_sched.specs.Runs.{May, IsRun, IsReady}
use Rattle.mk_sched.specs.Sure.{HasTimes, surely_stale}
use Rattle.mk_sched.proofs.OneRun.{own_file}
use Rattle.mk_sched.proofs.Listing.{controls_report}
use Rattle.mk_sched.proofs.Surely.{surely}
use Rattle.mk_cert.specs.Traces.{FollowsSteps, event_of, past_of, time_at}
use Rattle.mk_cert.specs.Sure.{surely_older, surely_fresh, is_ready, passes, all_pass}
use Rattle.mk_cert.specs.Laws.{SurelyFresh, SureTraceHolds}
use Rattle.mk_proof.specs.declared.step.Step.{Step}
use Rattle.mk_proof.specs.declared.step.Step.TheVariants.{Skip, Start, Finish}
use Rattle.mk_cert.proofs.Clashing.{ready_parts, runs_is}

-- a test that all elements pass gives what it says of each
pub list_all-at : {X : Type 0} (p : X → Bool) (xs : List X) (x : X) → list_all p xs ≡ true → Contains xs x → p x ≡ true
list_all-at p xs x all inside = All-contains (λ y. p y ≡ true) xs x (AllPass-from_list_all p xs all) inside

-- a test that no element passes finds none
list_any-none : {X : Type 0} (p : X → Bool) (xs : List X) → ((x : X) → Contains xs x → p x ≡ false) → list_any p xs ≡ false
list_any-none p [] none = refl
list_any-none p (x ∷ xs) none = or_from (p x) (list_any p xs) (none x (0, omega arith, refl))
    (list_any-none p xs (λ y inside. none y (Contains-append_right (x ∷ []) xs y inside)))

-- a file that is there is not out of date by an older one
not_outdated : (tie : Bool) (own other : Option File) → is_some own ≡ true → is_some other ≡ true
    → ((f g : File) → own ≡ Some f → other ≡ Some g → g.time < f.time) → outdates tie own other ≡ false
not_outdated tie None other here there older = cc
not_outdated tie (Some f) None here there older = cc
not_outdated tie (Some f) (Some g) here there older =
    let less = older f g refl refl in
    or_from _ _ (le-ltb f.time g.time (omega arith)) (and_right tie _ (ne_eqb f.time g.time (λ same. omega arith)))

not_absent : (o : Option File) → is_some o ≡ true → is_none o ≡ false
not_absent None some = sym some
not_absent (Some file) some = refl

-- the parts of the test of one prerequisite
older_parts : (jobs : Jobs) (times : ℕ → ℕ) (phases : ℕ → Phase) (n p : ℕ) → surely_older jobs times phases n p ≡ true
    → (is_listed jobs p ≡ true) × (is_phony jobs p ≡ false) × (times p < times n) × (is_started (phases p) ≡ false)
older_parts jobs times phases n p older =
    let three = and_parts (is_listed jobs p && not (is_phony jobs p) && nat_lt (times p) (times n)) (not (is_started (phases p))) older in
    let two = and_parts (is_listed jobs p && not (is_phony jobs p)) (nat_lt (times p) (times n)) three.0 in
    let one = and_parts (is_listed jobs p) (not (is_phony jobs p)) two.0 in
    (one.0, not-true _ one.1, ltb-true _ _ two.1, not-true _ three.1)

pub fresh : SurelyFresh
fresh jobs times tie limit opening past n valid agrees has_times run inside unstarted sure =
    let two = and_parts (is_listed jobs n && not (is_phony jobs n)) (list_all (surely_older jobs times (phase past) n) (prerequisites_of jobs n)) sure in
    let one = and_parts (is_listed jobs n) (not (is_phony jobs n)) two.0 in
    let own : store_after opening past (name_of jobs n) ≡ opening (name_of jobs n) = own_file jobs tie limit opening past n valid run inside unstarted in
    let there : is_some (opening (name_of jobs n)) ≡ true = agrees n inside ∙ one.0 in
    or_from _ _
    (or_from _ _ (not-true _ one.1) (ap is_none own ∙ not_absent _ there))
    (list_any-none _ (prerequisites_of jobs n) (λ p step.
    let older = older_parts jobs times (phase past) n p (list_all-at (surely_older jobs times (phase past) n) (prerequisites_of jobs n) p two.1 step) in
    let below : p < node_count jobs = lt_trans (valid.smaller n p step) inside in
    let other : store_after opening past (name_of jobs p) ≡ opening (name_of jobs p) = own_file jobs tie limit opening past p valid run below older.3 in
    or_from _ _ older.1 (rw (own, other) (not_outdated tie (opening (name_of jobs n)) (opening (name_of jobs p)) there (agrees p below ∙ older.0)
    (λ f g is_f is_g. let time_f = has_times n f inside is_f in let time_g = has_times p g below is_g in let less = older.2 in omega arith)))))

-- the test of readiness
ready_is : (jobs : Jobs) (past : List Event) (n : ℕ) → is_ready jobs (phase past) n ≡ true → IsReady jobs past n
ready_is jobs past n ready =
    let parts = ready_parts jobs (phase past) n ready in
    record {
      in_jobs = ltb-true _ _ parts.0;
      waits = parts.1;
      prerequisites = λ p step. list_all-at (λ q. is_passed (phase past q)) (prerequisites_of jobs n) p parts.2 step;
    }

module _ (jobs : Jobs) (times : ℕ → ℕ) (tie : Bool) (opening : Store) (valid : IsValid jobs) (agrees : AgreesWith jobs opening) (has_times : HasTimes jobs times opening) where
  -- a step that passes is allowed
  pub step_may : (past : List Event) (step : Step) → IsRun jobs tie 2 opening past → passes jobs times (phase past) step ≡ true
      → May jobs tie 2 opening past (event_of step).node (event_of step).act
  step_may past (Skip n) run passes =
      let two = and_parts (is_ready jobs (phase past) n) (not (has_recipe jobs n) || surely_fresh jobs times (phase past) n) passes in
      let ready = ready_is jobs past n two.0 in
      record {
        ready = ready;
        fresh = elim (or_cases (not (has_recipe jobs n)) (surely_fresh jobs times (phase past) n) two.1) [
          | inl none ↦ and_left (has_recipe jobs n) (is_stale jobs tie (store_after opening past) n) (not-true _ none)
          | inr sure ↦ and_right (has_recipe jobs n) (is_stale jobs tie (store_after opening past) n)
              (fresh jobs times tie 2 opening past n valid agrees has_times run ready.in_jobs (ap is_started ready.waits) sure)
        ];
      }
  step_may past (Start n) run passes =
      let room : Bool = nat_lt (count_to (λ k. is_running (phase past k)) (node_count jobs)) 2 in
      let three = and_parts (is_ready jobs (phase past) n && has_recipe jobs n && surely_stale jobs times n) room passes in
      let two = and_parts (is_ready jobs (phase past) n && has_recipe jobs n) (surely_stale jobs times n) three.0 in
      let one = and_parts (is_ready jobs (phase past) n) (has_recipe jobs n) two.0 in
      let ready = ready_is jobs past n one.0 in
      record {
        ready = ready;
        stale = and_from (has_recipe jobs n) (is_stale jobs tie (store_after opening past) n) one.1
            (surely jobs times tie 2 opening past n valid agrees has_times run ready.in_jobs (ap is_started ready.waits) two.1);
        room = ltb-true _ _ three.1;
      }
  step_may past (Finish n) run passes = runs_is (phase past n) (and_parts (nat_lt n (node_count jobs)) (is_running (phase past n)) passes).1

-- what passes in turn passes from each place on
pass_on : (jobs : Jobs) (times : ℕ → ℕ) (first second : ℕ) (past : List Event) (done rest : List Step)
    → all_pass jobs times first second past (done ++ rest) ≡ true → all_pass jobs times first second (reverse_aux (map event_of done) past) rest ≡ true
pass_on jobs times first second past [] rest pass = pass
pass_on jobs times first second past (step ∷ done) rest pass = pass_on jobs times first second (event_of step ∷ past) done rest
    (and_parts (passes jobs times (phase past) step) (all_pass jobs times first second (event_of step ∷ past) (done ++ rest)) pass).1

-- who follows the steps is in the phases that they say
alike : {jobs : Jobs} {tie : Bool} {opening : Store} {past : List Event} {steps : List Step} → FollowsSteps jobs tie opening past steps → phase (past_of steps) ≡ phase past
alike {past = past} follows = fun_ext (λ n. ap (λ (es : List Event). phase es n) (sym follows.steps_alone) ∙ controls_report past n)

pub holds : SureTraceHolds
holds jobs trace valid sure = record {
  clash = sure.clash;
  listed = sure.listed;
  allowed = λ tie opening past done next rest fits cut follows.
      let times : ℕ → ℕ = time_at trace.times in
      let from = pass_on jobs times trace.first trace.second [] done (next ∷ rest)
      (subst (λ (steps : List Step). all_pass jobs times trace.first trace.second [] steps ≡ true) cut sure.steps) in
      let here = (and_parts (passes jobs times (phase (past_of done)) next) _ from).0 in
      step_may jobs times tie opening valid fits.agrees fits.has_times past next follows.run
      (subst (λ (phases : ℕ → Phase). passes jobs times phases next ≡ true) (alike follows) here);
  both_run = λ tie opening past fits follows.
      let times : ℕ → ℕ = time_at trace.times in
      let from = pass_on jobs times trace.first trace.second [] trace.steps []
      (subst (λ (steps : List Step). all_pass jobs times trace.first trace.second [] steps ≡ true) (sym (append-nil trace.steps)) sure.steps) in
      let both = and_parts (is_running (phase (past_of trace.steps) trace.first)) (is_running (phase (past_of trace.steps) trace.second)) from in
      let at = λ (n : ℕ). ap (λ (phases : ℕ → Phase). phases n) (alike follows) in
      (sym (at trace.first) ∙ runs_is _ both.0, sym (at trace.second) ∙ runs_is _ both.1);
}
