-- The jobs of tasks.
use Rattle.std.specs.Prelude.{ℕ, true, false, List, ◌∷◌, Result, Ok, Err, map}
use Rattle.mk_name.specs.Names.{Name}
use Rattle.mk_name.specs.Reported.{Reported}
use Rattle.mk_jobs.specs.Jobs.{Jobs}
use Rattle.mk_jobs.specs.Plan.{Node}
use Rattle.mk_jobs.specs.declared.maker.Maker.TheVariants.{Rule}
use Rattle.mk_foot.specs.Footprints.{in_order}
use Rattle.mk_task.specs.Tasks.{Task, tasks_of}

-- the name of a task's own node, which no path spells and no file has: two slashes, a NUL and the label
abbrev pub own_name : Name → Name
own_name label = 47 ∷ 47 ∷ 0 ∷ label

-- the node of a task: it has a recipe and is phony, so its recipe always runs
abbrev pub node_of : Task → Node
node_of task = record {
  name = own_name task.label;
  prerequisites = task.needs;
  maker = Rule;
  phony = true;
  listed = false;
}

-- the jobs of tasks, whose paths were read below this root
abbrev pub jobs_of : List ℕ → List Task → Jobs
jobs_of root tasks = record {
  plan = record { nodes = map node_of tasks; wait_uses = 0 };
  root = root;
  reads = map (λ (task : Task). in_order task.reads) tasks;
  writes = map (λ (task : Task). in_order task.writes) tasks;
}

-- the jobs of tasks, or their fault
abbrev pub made : List ℕ → Result (List Task) Reported → Result Jobs Reported
made root (Ok tasks) = Ok (jobs_of root tasks)
made root (Err fault) = Err fault

-- what `read_tasks` answers: the jobs of the tasks of a text below a root, or the first line's fault
abbrev pub jobs_in : List ℕ → List ℕ → Result Jobs Reported
jobs_in root text = made root (tasks_of root text)
