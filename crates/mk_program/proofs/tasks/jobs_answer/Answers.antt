use Rattle.std.proofs.Common.{Err, Ok, subst}
use Rattle.std.proofs.lemmas.Result.{IfOk-weaker}
use Rattle.mk_name.specs.Gives.{Halts}
use Rattle.mk_name.specs.declared.fault.Halt.{Halt}
use Rattle.mk_race.specs.Tasked.{tasked}
use Rattle.mk_program.proofs.Answering.{refusal_not_failed}
use Rattle.mk_program.proofs.TaskAnswers.{refused_jobs, tasked_same}
use Rattle.mk_program.proofs.tasks.jobs_answer.Goals as goal

pub returns-in-Ok-clause-answer : goal.returns-in-Ok-clause-answer
returns-in-Ok-clause-answer c =
    IfOk-weaker c.answer_on.result _ _ (λ answer h text are.
    h text are (tasked_same _ _ _ _ (Ok c.in-Ok.jobs) c.as_bytes-root.ensures.value (are _ _ c.text_of.ensures) c.in-Ok.ensures)) c.answer_on.ensures.answer

pub returns-in-Err-clause-status : goal.returns-in-Err-clause-status
returns-in-Err-clause-status c = IfOk-weaker c.refused.result _ _ (λ answer h. refusal_not_failed answer.status h.2) c.refused.ensures

pub returns-in-Err-clause-answer : goal.returns-in-Err-clause-answer
returns-in-Err-clause-answer c =
    let root = c.as_bytes-root.result.now in
    let tasks = c.text_of.result.now in
    IfOk-weaker c.refused.result _ _ (λ answer h text are.
    refused_jobs _ text answer.status answer.text.items c.args.args.now.question h.0 c.requires
    (tasked_same _ _ _ _ (Err h.0) c.as_bytes-root.ensures.value (are _ _ c.text_of.ensures) (subst (λ (halt : Halt). Halts halt (tasked root tasks)) h.1 c.in-Err.ensures))
    h.2 h.3) c.refused.ensures
