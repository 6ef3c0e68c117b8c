use Rattle.std.proofs.lemmas.Result.{IfOk-weaker}
use Rattle.mk_race.specs.TasksFixed.{IsTaskFixing}
use Rattle.mk_program.specs.Answers.{SaysTasksFixed}
use Rattle.mk_program.proofs.Answering.{refusal_not_failed}
use Rattle.mk_program.proofs.Fixings.{tasks_fixed_is, tasks_not_failed, unfixed_is}
use Rattle.mk_program.proofs.tasks.fix_answer.Goals as goal

pub returns-in-Ok-clause-status : goal.returns-in-Ok-clause-status
returns-in-Ok-clause-status c =
    let root = c.args.root.now in
    let tasks = c.args.tasks.now in
    IfOk-weaker c.fixing_answer.result _ _ (λ answer h. tasks_not_failed root tasks c.args.proof c.in-Ok.fixing answer.status answer.text.items (h root tasks c.in-Ok.ensures.headline)) c.fixing_answer.ensures

pub returns-in-Ok-clause-answer : goal.returns-in-Ok-clause-answer
returns-in-Ok-clause-answer c =
    let root = c.args.root.now in
    let tasks = c.args.tasks.now in
    IfOk-weaker c.fixing_answer.result _ _ (λ answer h. tasks_fixed_is root tasks c.args.proof c.in-Ok.fixing answer.status answer.text.items c.in-Ok.ensures.answer (h root tasks c.in-Ok.ensures.headline)) c.fixing_answer.ensures

pub returns-in-Err-clause-status : goal.returns-in-Err-clause-status
returns-in-Err-clause-status c = IfOk-weaker c.refused.result _ _ (λ answer h. refusal_not_failed answer.status h.2) c.refused.ensures

pub returns-in-Err-clause-answer : goal.returns-in-Err-clause-answer
returns-in-Err-clause-answer c =
    IfOk-weaker c.refused.result _ _ (λ answer h. unfixed_is (IsTaskFixing c.args.root.now c.args.tasks.now) (SaysTasksFixed c.args.root.now c.args.tasks.now c.args.proof)
    c.in-Err.halt h.0 _ _ c.in-Err.ensures.answer h.1 h.2 h.3) c.refused.ensures
