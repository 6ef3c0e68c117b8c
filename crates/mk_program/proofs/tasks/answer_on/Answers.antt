use Rattle.std.proofs.lemmas.Result.{IfOk-weaker}
use Rattle.mk_program.proofs.TaskAnswers.{check_on, list_on, verify_on}
use Rattle.mk_program.proofs.tasks.answer_on.Goals as goal

pub returns-in-Check-clause-answer : goal.returns-in-Check-clause-answer
returns-in-Check-clause-answer c = IfOk-weaker c.judged_of.result _ _ (λ answer h text are given.
    check_on _ _ text c.args.jobs answer.status answer.text.items given _ _ c.in-Check.is h) c.judged_of.ensures.answer

pub returns-in-Verify-clause-answer : goal.returns-in-Verify-clause-answer
returns-in-Verify-clause-answer c = IfOk-weaker c.verdict_of.result _ _ (λ answer h text are given.
    verify_on _ _ text c.args.jobs answer.status answer.text.items given _ _ _ c.in-Verify.is (are _ _ c.text_of.ensures) h) c.verdict_of.ensures.answer

pub returns-in-List-clause-answer : goal.returns-in-List-clause-answer
returns-in-List-clause-answer c = IfOk-weaker c.list_over.result _ _ (λ answer h text are given.
    list_on _ _ text c.args.jobs answer.status answer.text.items given c.in-List.is h) c.list_over.ensures.answer
