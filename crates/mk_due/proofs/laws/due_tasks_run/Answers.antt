use Rattle.mk_due.proofs.Runs.{due_tasks_run}
use Rattle.mk_due.proofs.laws.due_tasks_run.Goals as goal

pub returns : goal.returns
returns c = due_tasks_run
