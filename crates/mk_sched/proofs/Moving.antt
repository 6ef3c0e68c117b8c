-- The number of running nodes.
use Rattle.std.proofs.Common.{ℕ, zero, suc, ◌≡◌, ◌<◌, ◌==◌, inl, inr, Bool, true, false, List, [], ◌∷◌, refl, sym, ap, ◌∙◌, subst, arith, eq-eqb, ne_eqb, eqb-true}
use Rattle.std.proofs.lemmas.Bool.{false≢true, cases_eq}
use Rattle.mk_jobs.specs.Jobs.{Jobs, node_count}
use Rattle.mk_sched.specs.Stores.{Store}
use Rattle.mk_sched.specs.Events.{Act, Skip, Start, Look, Put, Erase, Finish, Event, acts_of, phase, phase_after, is_running, count_to, running_below}
use Rattle.mk_sched.specs.Runs.{May, IsRun}
use Rattle.mk_sched.specs.Counter.{Moves, CounterMoves}
use Rattle.mk_sched.proofs.Basics.{split, is_begun}
use Rattle.mk_sched.proofs.OneRun.{may_own}

-- tests that agree below n count alike there
pub count_to-same : (test other : ℕ → Bool) (n : ℕ) → ((k : ℕ) → k < n → test k ≡ other k) → count_to test n ≡ count_to other n
count_to-same test other zero same = refl
count_to-same test other (suc n) same = rw (same n (omega arith), count_to-same test other n (λ k below. same k (omega arith))) refl

-- a test that passes at one more number below n counts one more
pub count_to-more : (test other : ℕ → Bool) (n m : ℕ) → m < n → test m ≡ false → other m ≡ true → ((k : ℕ) → (k ≡ m → ⊥) → test k ≡ other k) → count_to other n ≡ suc (count_to test n)
count_to-more test other zero m below fails passes same = absurd (omega arith)
count_to-more test other (suc n) m below fails passes same = elim (cases_eq n m) [
  | inl is ↦
      let here : test n ≡ false = ap test is ∙ fails in
      let there : other n ≡ true = ap other is ∙ passes in
      rw (here, there, count_to-same test other n (λ k less. same k (λ e. omega arith))) refl
  | inr not_m ↦
      let here = same n not_m in
      let rest = count_to-more test other n m (omega arith) fails passes same in
      split (other n) (λ yes_n. rw (here, yes_n, rest) refl) (λ no_n. rw (here, no_n, rest) refl)
]

module _ (jobs : Jobs) (tie : Bool) (limit : ℕ) (opening : Store) where
  -- who waits no more is a node
  in_jobs_act : (past : List Event) (n : ℕ) (a : Act) → May jobs tie limit opening past n a → (is_begun (phase past n) ≡ true → n < node_count jobs) → n < node_count jobs
  in_jobs_act past n Skip may earlier = may.ready.in_jobs
  in_jobs_act past n Start may earlier = may.ready.in_jobs
  in_jobs_act past n (Look path seen) may earlier = earlier (ap is_begun may.runs)
  in_jobs_act past n (Put path bytes time) may earlier = earlier (ap is_begun may.runs)
  in_jobs_act past n (Erase path) may earlier = earlier (ap is_begun may.runs)
  in_jobs_act past n Finish may earlier = earlier (ap is_begun may)

  pub in_jobs : (past : List Event) (n : ℕ) → IsRun jobs tie limit opening past → is_begun (phase past n) ≡ true → n < node_count jobs
  in_jobs [] n run begun = absurd (false≢true begun)
  in_jobs (e ∷ past) n run begun = split (e.node == n)
      (λ own. in_jobs_act past n e.act (may_own jobs tie limit opening e past n run own) (in_jobs past n run.0))
      (λ other. in_jobs past n run.0 (rw other at begun))

  -- the counter at an act that leaves each node running or not as it was
  still : (past : List Event) (n : ℕ) (a : Act) → is_running (phase_after (a ∷ acts_of n past)) ≡ is_running (phase past n)
      → running_below (record { node = n; act = a } ∷ past) (node_count jobs) ≡ running_below past (node_count jobs)
  still past n a same = count_to-same _ _ (node_count jobs) (λ k below. split (n == k)
      (λ own. rw own (subst (λ m. is_running (phase_after (a ∷ acts_of m past)) ≡ is_running (phase past m)) (eqb-true n k own) same))
      (λ other. rw other refl))

  moves : (past : List Event) (n : ℕ) (a : Act) → IsRun jobs tie limit opening past → May jobs tie limit opening past n a
      → Moves a (running_below past (node_count jobs)) (running_below (record { node = n; act = a } ∷ past) (node_count jobs))
  moves past n Skip run may = still past n Skip (sym (ap is_running may.ready.waits))
  moves past n Start run may = count_to-more _ _ (node_count jobs) n may.ready.in_jobs (ap is_running may.ready.waits) (rw (eq-eqb n n refl) refl)
      (λ k different. rw (ne_eqb n k (λ same. different (sym same))) refl)
  moves past n (Look path seen) run may = still past n (Look path seen) refl
  moves past n (Put path bytes time) run may = still past n (Put path bytes time) refl
  moves past n (Erase path) run may = still past n (Erase path) refl
  moves past n Finish run may = sym (count_to-more _ _ (node_count jobs) n (in_jobs past n run (ap is_begun may)) (rw (eq-eqb n n refl) refl) (ap is_running may)
      (λ k different. rw (ne_eqb n k (λ same. different (sym same))) refl))

pub counter_moves : CounterMoves
counter_moves jobs tie limit opening e past run = moves jobs tie limit opening past e.node e.act run.0 run.1
