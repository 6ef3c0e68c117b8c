use Rattle.std.proofs.Common.{codes}
use Rattle.clap.specs.Words.{found_of}
use Rattle.mk_request.proofs.Values.{named_is, unnamed_is}
use Rattle.mk_request.proofs.words.request_of.Goals as goal

pub task_args-requires-clause-tasks : goal.task_args-requires-clause-tasks
task_args-requires-clause-tasks c = named_is c.get_str.result c.in-Some.tasks (found_of c.args.found.now) (codes "tasks") c.in-Some.is c.get_str.ensures

pub job_question-requires-clause-no_tasks : goal.job_question-requires-clause-no_tasks
job_question-requires-clause-no_tasks c = unnamed_is c.get_str.result (found_of c.args.found.now) (codes "tasks") c.in-None.is c.get_str.ensures
