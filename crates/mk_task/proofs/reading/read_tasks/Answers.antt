use Rattle.mk_task.proofs.ReadTasks.{tasks_good}
use Rattle.mk_task.proofs.reading.read_tasks.Goals as goal

pub jobs_of-requires : goal.jobs_of-requires
jobs_of-requires c = tasks_good c.args.root.now c.args.text.now c.in_ok-tasks.tasks.items c.in_ok-tasks.ensures.tasks
