-- What is so of the jobs of a text of tasks.
use Rattle.std.proofs.Common.{ℕ, ◌≡◌, List, Ok, Err, Result, subst}
use Rattle.mk_name.specs.Reported.{Reported}
use Rattle.mk_jobs.specs.Jobs.{Jobs}
use Rattle.mk_sched.specs.Schedules.{IsDeterminateFromOneRun}
use Rattle.mk_text.specs.Spelling.{root_of}
use Rattle.mk_task.specs.JobsOf.{jobs_of, made}
use Rattle.mk_task.specs.Tasks.{Task, tasks_of}
use Rattle.mk_task.proofs.Starting.{AreTasks, each_agrees, each_started, jobs_are_tasks}
use Rattle.mk_race.specs.Tasked.{EachStarts, ForAllTasks, NoScheduleOfTasksShows, TasksRunAlike, below, tasked}

made_of : (root : List ℕ) (read : Result (List Task) Reported) (jobs : Jobs) → made root read ≡ Ok jobs → AreTasks jobs
made_of root (Ok tasks) jobs is = subst AreTasks (let e : ◌≡◌ {A = Result Jobs Reported} (Ok (jobs_of root tasks)) (Ok jobs) = is in cc) (jobs_are_tasks root tasks)
made_of root (Err fault) jobs is = absurd (let e : ◌≡◌ {A = Result Jobs Reported} (Err fault) (Ok jobs) = is in cc)

below_of : (text : List ℕ) (root : Result (List ℕ) Reported) (jobs : Jobs) → below text root ≡ Ok jobs → AreTasks jobs
below_of text (Ok root) jobs is = made_of root (tasks_of root text) jobs is
below_of text (Err fault) jobs is = absurd (let e : ◌≡◌ {A = Result Jobs Reported} (Err fault) (Ok jobs) = is in cc)

-- the jobs of a text are those of tasks
pub text_of_tasks : (root text : List ℕ) (jobs : Jobs) → tasked root text ≡ Ok jobs → AreTasks jobs
text_of_tasks root text jobs given = below_of text (root_of root) jobs given

pub each_starts : (jobs : Jobs) → AreTasks jobs → EachStarts jobs
each_starts jobs are opening tie limit past n run complete there = each_started jobs are tie limit opening past n run complete there

pub runs_alike : (jobs : Jobs) → AreTasks jobs → IsDeterminateFromOneRun jobs → TasksRunAlike jobs
runs_alike jobs are one opening tie limit other seen past absent = one opening tie limit other seen past (each_agrees jobs are opening absent)

-- where jobs are determinate from one run, no schedule of tasks that mean them shows
pub no_tasks_show : (jobs : Jobs) → IsDeterminateFromOneRun jobs → ForAllTasks jobs NoScheduleOfTasksShows
no_tasks_show jobs one root text given = record {
  jobs = jobs;
  given = given;
  start = each_starts jobs (text_of_tasks root text jobs given);
  alike = runs_alike jobs (text_of_tasks root text jobs given) one;
}
