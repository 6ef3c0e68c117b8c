use Rattle.mk_request.proofs.words.task_words.task_args.Goals as goal

pub returns : goal.returns
returns c = record { tasks = c.requires.tasks; root = c.value_in.ensures; quiet = c.is_set.ensures; question = c.task_question.ensures }
