use Rattle.mk_task.proofs.Starting.{tasks_started}
use Rattle.mk_task.proofs.laws.tasks_start.Goals as goal

pub returns : goal.returns
returns c = tasks_started
