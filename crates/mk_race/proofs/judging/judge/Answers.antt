use Rattle.mk_race.proofs.Alike.{no_build_shows}
use Rattle.mk_race.proofs.OfTasks.{no_tasks_show}
use Rattle.mk_race.proofs.judging.judge.Goals as goal

pub returns-in-Ok-Safe-clause-headline : goal.returns-in-Ok-Safe-clause-headline
returns-in-Ok-Safe-clause-headline c = λ safe. no_build_shows c.args.jobs (c.in-Ok-Safe.ensures.from_one_run (rw c.in-Ok-Safe.field-0-is tt))

pub returns-in-Ok-Safe-clause-of_tasks : goal.returns-in-Ok-Safe-clause-of_tasks
returns-in-Ok-Safe-clause-of_tasks c = λ safe. no_tasks_show c.args.jobs (c.in-Ok-Safe.ensures.from_one_run (rw c.in-Ok-Safe.field-0-is tt))
