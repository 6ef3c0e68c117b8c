-- Each task starts, and no store has its name.
use Rattle.std.proofs.Common.{ℕ, inl, inr, ◌≡◌, ◌∙◌, ◌<◌, ◌&&◌, Bool, true, false, List, [], ◌∷◌, eqb, length, map, get_or, refl, sym, ap, ap₂, subst}
use Rattle.std.specs.Prelude.{is_some}
use Rattle.std.proofs.lemmas.Bool.{both_ways, cases_Bool, cond-true, cond-false, eqb-true, or_left}
use Rattle.std.proofs.lemmas.List.{get_or-map, length-map}
use Rattle.std.proofs.lemmas.Option.{unwrap_or-slice_get}
use Rattle.mk_name.specs.Names.{Name}
use Rattle.mk_jobs.specs.Jobs.{Jobs, has_commands, has_recipe, is_listed, is_phony, name_of, node_at, node_count}
use Rattle.mk_jobs.specs.Plan.{Node, nobody}
use Rattle.mk_sched.specs.Stores.{AgreesWith, Store, must_run}
use Rattle.mk_sched.specs.Events.{Act, Event, Skip, Start, Look, Put, Erase, Finish, Phase, Waiting, Running, Skipped, Ran, acts_of, is_passed, is_started, phase, phase_after, store_after}
use Rattle.mk_sched.specs.Runs.{IsComplete, IsRun, May}
use Rattle.mk_task.specs.JobsOf.{jobs_of, node_of, own_name}
use Rattle.mk_task.specs.Started.{HasNoOwnNames, StoresAgree, TasksStart}
use Rattle.mk_task.specs.Tasks.{Task}

-- skipped
abbrev is_skipped : Phase → Bool
is_skipped Waiting = false
is_skipped Running = false
is_skipped Skipped = true
is_skipped Ran = false

-- what has passed and was not skipped has started
unskipped : (p : Phase) → is_passed p ≡ true → is_skipped p ≡ false → is_started p ≡ true
unskipped Waiting passed other = passed
unskipped Running passed other = refl
unskipped Skipped passed other = sym other
unskipped Ran passed other = refl

-- of jobs that are those of tasks each node always runs, is not listed, and has a name that only a task has
pub record AreTasks (jobs : Jobs) : Type 0 where
  pub made : (n : ℕ) → n < node_count jobs → has_recipe jobs n ≡ true
  pub always : (n : ℕ) → n < node_count jobs → is_phony jobs n ≡ true
  pub unlisted : (n : ℕ) → n < node_count jobs → is_listed jobs n ≡ false
  pub named : (n : ℕ) → n < node_count jobs → (label : Name) × (name_of jobs n ≡ own_name label)

module _ (root : List ℕ) (tasks : List Task) where
  nothing : Task
  nothing = record { label = []; needs = []; reads = []; writes = [] }

  node_is : (n : ℕ) → n < node_count (jobs_of root tasks) → node_at (jobs_of root tasks) n ≡ node_of (get_or tasks n nothing)
  unfolding node_count
  node_is n below =
      unwrap_or-slice_get (map node_of tasks) n nobody ∙ get_or-map node_of tasks n nothing nobody (subst (λ k. n < k) (length-map tasks node_of) below)

  pub jobs_are_tasks : AreTasks (jobs_of root tasks)
  unfolding has_recipe is_listed is_phony name_of
  jobs_are_tasks = record {
    made = λ n below. ap (λ (d : Node). has_commands d.maker) (node_is n below);
    always = λ n below. ap (λ (d : Node). d.phony) (node_is n below);
    unlisted = λ n below. ap (λ (d : Node). d.listed) (node_is n below);
    named = λ n below. ((get_or tasks n nothing).label, ap (λ (d : Node). d.name) (node_is n below));
  }

module _ (jobs : Jobs) (n : ℕ) (made : has_recipe jobs n ≡ true) (always : is_phony jobs n ≡ true) where
  -- a node that always runs is due in every store
  due : (tie : Bool) (store : Store) → must_run jobs tie store n ≡ true
  due tie store = ap₂ ◌&&◌ made (or_left _ _ (or_left _ _ always))

  -- an act of its own that is allowed is no skip
  own : (tie : Bool) (limit : ℕ) (opening : Store) (past : List Event) (act : Act) → is_skipped (phase past n) ≡ false
      → May jobs tie limit opening past n act → is_skipped (phase_after (act ∷ acts_of n past)) ≡ false
  own tie limit opening past Skip was may = absurd (both_ways _ may.fresh (due tie (store_after opening past)))
  own tie limit opening past Start was may = refl
  own tie limit opening past (Look path seen) was may = was
  own tie limit opening past (Put path bytes time) was may = was
  own tie limit opening past (Erase path) was may = was
  own tie limit opening past Finish was may = refl

  step : (tie : Bool) (limit : ℕ) (opening : Store) (past : List Event) (e : Event) → is_skipped (phase past n) ≡ false
      → May jobs tie limit opening past e.node e.act → is_skipped (phase (e ∷ past) n) ≡ false
  step tie limit opening past e was may = elim (cases_Bool (eqb e.node n)) [
    | inl mine ↦
        ap (λ acts. is_skipped (phase_after acts)) (cond-true (eqb e.node n) (e.act ∷ acts_of n past) (acts_of n past) mine)
        ∙ own tie limit opening past e.act was (subst (λ k. May jobs tie limit opening past k e.act) (eqb-true e.node n mine) may)
    | inr other ↦
        ap (λ acts. is_skipped (phase_after acts)) (cond-false (eqb e.node n) (e.act ∷ acts_of n past) (acts_of n past) other)
        ∙ was
  ]

  -- no run skips it
  never : (tie : Bool) (limit : ℕ) (opening : Store) (past : List Event) → IsRun jobs tie limit opening past → is_skipped (phase past n) ≡ false
  never tie limit opening [] run = refl
  never tie limit opening (e ∷ past) run = step tie limit opening past e (never tie limit opening past run.0) run.1

-- each of them starts
pub each_started : (jobs : Jobs) → AreTasks jobs → (tie : Bool) (limit : ℕ) (opening : Store) (past : List Event) (n : ℕ)
    → IsRun jobs tie limit opening past → IsComplete jobs past → n < node_count jobs → is_started (phase past n) ≡ true
each_started jobs are tie limit opening past n run complete below =
    unskipped (phase past n) (complete n below) (never jobs n (are.made n below) (are.always n below) tie limit opening past run)

-- and a store without the names of tasks agrees with them
pub each_agrees : (jobs : Jobs) → AreTasks jobs → (store : Store) → HasNoOwnNames store → AgreesWith jobs store
each_agrees jobs are store absent n below =
    let label = are.named n below in
    ap (λ (x : Name). is_some (store x)) label.1 ∙ absent label.0 ∙ sym (are.unlisted n below)

count_of : (root : List ℕ) (tasks : List Task) → node_count (jobs_of root tasks) ≡ length tasks
unfolding node_count
count_of root tasks = length-map tasks node_of

pub tasks_started : TasksStart
tasks_started root tasks tie limit opening past n run complete below =
    each_started (jobs_of root tasks) (jobs_are_tasks root tasks) tie limit opening past n run complete (subst (λ k. n < k) (sym (count_of root tasks)) below)

pub stores_agree : StoresAgree
stores_agree root tasks = each_agrees (jobs_of root tasks) (jobs_are_tasks root tasks)
