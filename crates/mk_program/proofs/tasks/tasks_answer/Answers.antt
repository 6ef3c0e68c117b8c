use Rattle.std.proofs.lemmas.Result.{IfOk-weaker}
use Rattle.mk_program.proofs.TaskAnswers.{fix_read, missing_read}
use Rattle.mk_program.proofs.tasks.tasks_answer.Goals as goal

pub returns-in-Fix-clause-answer : goal.returns-in-Fix-clause-answer
returns-in-Fix-clause-answer c = IfOk-weaker c.fix_answer.result _ _ (λ answer h text are.
    fix_read _ _ _ _ text answer.status answer.text.items c.as_bytes-root.ensures.value (are _ _ c.text_of-tasks.ensures) _ c.in-Fix.is h) c.fix_answer.ensures.answer

pub returns-in-Missing-clause-answer : goal.returns-in-Missing-clause-answer
returns-in-Missing-clause-answer c = IfOk-weaker c.missing_answer.result _ _ (λ answer h text are.
    missing_read _ _ _ _ text answer.status answer.text.items c.as_bytes-root.ensures.value (are _ _ c.text_of-tasks.ensures) _ _ c.in-Missing.is (are _ _ c.text_of-listing.ensures) h) c.missing_answer.ensures.answer
