-- Sure traces: a test by numbers alone. A trace that passes it holds.
use Rattle.std.specs.Prelude.{ℕ, ◌≡◌, ◌&&◌, ◌||◌, not, nat_lt, Bool, true, false, List, [], ◌∷◌}
use Rattle.std.specs.List.{list_all}
use Rattle.mk_jobs.specs.Jobs.{Jobs, node_count, prerequisites_of, has_recipe, is_phony, is_listed}
use Rattle.mk_sched.specs.Events.{Event, Phase, Waiting, Running, Skipped, Ran, phase, is_passed, is_running, is_started, count_to}
use Rattle.mk_sched.specs.Sure.{surely_stale}
use Rattle.mk_proof.specs.Shapes.{Trace}
use Rattle.mk_cert.specs.Traces.{ClashesOn, AreOfListed, event_of, time_at}
use Rattle.mk_proof.specs.declared.step.Step.{Step}
use Rattle.mk_proof.specs.declared.step.Step.TheVariants.{Skip, Start, Finish}

-- it waits
abbrev pub is_waiting : Phase → Bool
is_waiting Waiting = true
is_waiting Running = false
is_waiting Skipped = false
is_waiting Ran = false

-- p's file is surely older than n's: p is listed, not phony, older by the times, and has not started, so its file is as it was
abbrev pub surely_older : Jobs → (ℕ → ℕ) → (ℕ → Phase) → ℕ → ℕ → Bool
surely_older jobs times phases n p =
    is_listed jobs p && not (is_phony jobs p) && nat_lt (times p) (times n) && not (is_started (phases p))

-- n is surely fresh: it is listed and not phony, and the files of all its prerequisites are surely older
abbrev pub surely_fresh : Jobs → (ℕ → ℕ) → (ℕ → Phase) → ℕ → Bool
surely_fresh jobs times phases n =
    is_listed jobs n && not (is_phony jobs n) && list_all (surely_older jobs times phases n) (prerequisites_of jobs n)

-- n is ready: a node that waits, all of whose prerequisites have passed
abbrev pub is_ready : Jobs → (ℕ → Phase) → ℕ → Bool
is_ready jobs phases n =
    nat_lt n (node_count jobs) && is_waiting (phases n) && list_all (λ p. is_passed (phases p)) (prerequisites_of jobs n)

-- in these phases, and by these times, a step is surely allowed
abbrev pub passes : Jobs → (ℕ → ℕ) → (ℕ → Phase) → Step → Bool
passes jobs times phases (Skip n) = is_ready jobs phases n && (not (has_recipe jobs n) || surely_fresh jobs times phases n)
passes jobs times phases (Start n) =
    is_ready jobs phases n && has_recipe jobs n && surely_stale jobs times n
    && nat_lt (count_to (λ k. is_running (phases k)) (node_count jobs)) 2
passes jobs times phases (Finish n) = nat_lt n (node_count jobs) && is_running (phases n)

-- behind a past these steps are surely allowed in turn, and then both nodes run
abbrev pub all_pass : Jobs → (ℕ → ℕ) → ℕ → ℕ → List Event → List Step → Bool
all_pass jobs times first second past [] = is_running (phase past first) && is_running (phase past second)
all_pass jobs times first second past (step ∷ steps) =
    passes jobs times (phase past) step && all_pass jobs times first second (event_of step ∷ past) steps

-- a sure trace: its nodes clash on its path, its times are those of the listed nodes, and its steps pass
pub record IsSure (jobs : Jobs) (trace : Trace) : Type 0 where
  pub clash : ClashesOn jobs trace.first trace.second trace.path
  pub listed : AreOfListed jobs trace.times
  pub steps : all_pass jobs (time_at trace.times) trace.first trace.second [] trace.steps ≡ true
