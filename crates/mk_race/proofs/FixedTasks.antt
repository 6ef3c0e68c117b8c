-- What the fix of tasks says of their runs.
use Rattle.std.proofs.Common.{ℕ, ◌≡◌, ◌∙◌, ◌<◌, List, Ok, Err, IfOk, Option, Result, Some, subst, sym}
use Rattle.mk_name.specs.Gives.{Answers}
use Rattle.mk_name.specs.declared.fault.Halt.{Halt}
use Rattle.mk_jobs.specs.Jobs.{Jobs, IsValid, node_count}
use Rattle.mk_decide.specs.Decisions.{AreSafe}
use Rattle.mk_decide.specs.Pairs.{HasFewPairs}
use Rattle.mk_fix.specs.Added.{AreRisingToLive, IsWithEdges, with_edges}
use Rattle.mk_fix.specs.Fixes.{IsFix}
use Rattle.mk_fix.proofs.Adding.{clash_down, clash_up, count_same, listed_same, name_same, phony_same, recipe_same}
use Rattle.mk_fix.proofs.Fixing.{fix_determinate, to_live, valid_stays}
use Rattle.mk_sched.specs.Laws.{IsDeterminate}
use Rattle.mk_sched.proofs.Staying.{from_one_run}
use Rattle.mk_task.proofs.Starting.{AreTasks}
use Rattle.mk_race.specs.Tasked.{tasked}
use Rattle.mk_race.specs.TasksFixed.{AreFixedBy, AreSafeIfFixed, FixHolds, HoldsOfFixedTasks, IsTaskFixingOf}
use Rattle.mk_race.specs.declared.tasks_fixing.TaskFixing.{TaskFixing}
use Rattle.mk_race.specs.declared.tasks_fixing.TaskFixing.TheVariants.{Fixed, NotFixed}
use Rattle.mk_race.proofs.OfTasks.{each_starts, runs_alike, text_of_tasks}

-- jobs of tasks stay so with rising edges to live nodes
tasks_stay : (jobs : Jobs) (edges : List (ℕ × ℕ)) → AreRisingToLive jobs edges → AreTasks jobs → AreTasks (with_edges jobs edges)
tasks_stay jobs edges rising are =
    let was : (n : ℕ) → n < node_count (with_edges jobs edges) → n < node_count jobs = λ n below. subst (λ k. n < k) (count_same jobs edges rising) below in
    record {
      made = λ n below. recipe_same jobs edges rising n ∙ are.made n (was n below);
      always = λ n below. phony_same jobs edges rising n ∙ are.always n (was n below);
      unlisted = λ n below. listed_same jobs edges rising n ∙ are.unlisted n (was n below);
      named = λ n below. let label = are.named n (was n below) in (label.0, name_same jobs edges rising n ∙ label.1);
    }

-- so are the jobs that are handed out with a fix
new_tasks : (jobs new : Jobs) (edges : List (ℕ × ℕ)) → IsFix jobs edges → new ≡ with_edges jobs edges → AreTasks jobs → AreTasks new
new_tasks jobs new edges fix is are = subst AreTasks (sym is) (tasks_stay jobs edges (to_live fix) are)

holds_of : (root text : List ℕ) (jobs new : Jobs) (lines : List ℕ) → IsValid jobs → tasked root text ≡ Ok jobs → AreFixedBy jobs lines new → FixHolds root text new
holds_of root text jobs new lines valid given fixed =
    let are = new_tasks jobs new fixed.edges fixed.fix fixed.added (text_of_tasks root text jobs given) in
    let still = subst IsValid (sym fixed.added) (valid_stays jobs fixed.edges valid (to_live fixed.fix)) in
    record {
      jobs = jobs;
      edges = fixed.edges;
      given = given;
      fix = fixed.fix;
      added = fixed.added;
      free = fixed.safe.race_free;
      determinate = subst IsDeterminate (sym fixed.added) (fix_determinate jobs fixed.edges valid fixed.fix);
      start = each_starts new are;
      alike = runs_alike new are (from_one_run new still fixed.safe.race_free);
    }

fixing_holds : (root text : List ℕ) (jobs : Jobs) (fixing : TaskFixing) → IsValid jobs → tasked root text ≡ Ok jobs → IsTaskFixingOf jobs (Ok fixing) → HoldsOfFixedTasks root text fixing
fixing_holds root text jobs (Fixed lines new) valid given fixed = holds_of root text jobs new lines.items valid given fixed
fixing_holds root text jobs (NotFixed lines) valid given many = tt

-- where tasks are fixed, no schedule of them shows, with the fix
pub headline_of : (root text : List ℕ) (jobs : Jobs) (result : Result TaskFixing Halt) → IsValid jobs → tasked root text ≡ Ok jobs → Answers result (IsTaskFixingOf jobs)
    → IfOk result (HoldsOfFixedTasks root text)
headline_of root text jobs (Ok fixing) valid given answer = fixing_holds root text jobs fixing valid given answer
headline_of root text jobs (Err halt) valid given answer = tt

-- jobs that were made with edges are those
pub made_is : (jobs new : Jobs) (edges : List (ℕ × ℕ)) (made : Option Jobs) → made ≡ Some new → IsWithEdges jobs edges made → new ≡ with_edges jobs edges
made_is jobs new edges made is such = subst (IsWithEdges jobs edges) is such

-- jobs with a fix have few pairs that clash where they have without it
few_stay : (jobs : Jobs) (edges : List (ℕ × ℕ)) → AreRisingToLive jobs edges → HasFewPairs jobs → HasFewPairs (with_edges jobs edges)
few_stay jobs edges rising few = record {
  pairs = few.pairs;
  all = record {
    rise = few.all.rise;
    clash = λ a b. (
      λ there. let is = (few.all.clash a b).0 there in (is.0, clash_up jobs edges rising a b is.1),
      λ is. (few.all.clash a b).1 (is.0, clash_down jobs edges rising a b is.1),
    );
  };
  few = few.few;
}

-- so they are safe
pub new_safe : (jobs new : Jobs) (edges : List (ℕ × ℕ)) → IsFix jobs edges → HasFewPairs jobs → new ≡ with_edges jobs edges → AreSafe new
new_safe jobs new edges fix few added = subst AreSafe (sym added) (record { race_free = fix.free; few = few_stay jobs edges (to_live fix) few })

-- where tasks are fixed, the jobs that are handed out are safe
safe_of : (fixing : TaskFixing) (jobs : Jobs) → IsTaskFixingOf jobs (Ok fixing) → AreSafeIfFixed fixing
safe_of (Fixed lines new) jobs fixed = fixed.safe
safe_of (NotFixed lines) jobs fixed = tt

pub all_safe : (result : Result TaskFixing Halt) (jobs : Jobs) → Answers result (IsTaskFixingOf jobs) → IfOk result AreSafeIfFixed
all_safe (Ok fixing) jobs is = safe_of fixing jobs is
all_safe (Err halt) jobs is = tt
