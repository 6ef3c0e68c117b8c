use Rattle.std.proofs.lemmas.Result.{IfOk-weaker}
use Rattle.mk_race.specs.Fixed.{IsFixing}
use Rattle.mk_program.specs.Answers.{IsFixReported}
use Rattle.mk_program.proofs.Answering.{refusal_not_failed}
use Rattle.mk_program.proofs.Fixings.{fixed_is, unfixed_is}
use Rattle.mk_program.proofs.fixing.fix_answer.Goals as goal

pub returns-in-Ok-clause-answer : goal.returns-in-Ok-clause-answer
returns-in-Ok-clause-answer c =
    IfOk-weaker c.fixing_answer.result _ _ (λ answer h texts footprints is holds.
    fixed_is texts footprints c.args.proof c.in-Ok.fixing answer.status answer.text.items (rw c.in-Ok.is at is)
    (h texts footprints (rw c.in-Ok.is at holds))) c.fixing_answer.ensures.answer

pub returns-in-Err-clause-status : goal.returns-in-Err-clause-status
returns-in-Err-clause-status c = IfOk-weaker c.refused.result _ _ (λ answer h. refusal_not_failed answer.status h.2) c.refused.ensures

pub returns-in-Err-clause-answer : goal.returns-in-Err-clause-answer
returns-in-Err-clause-answer c =
    IfOk-weaker c.refused.result _ _ (λ answer h texts footprints is holds.
    unfixed_is (IsFixing texts footprints) (IsFixReported texts footprints c.args.proof) c.in-Err.halt h.0 _ _ (rw c.in-Err.is at is)
    h.1 h.2 h.3) c.refused.ensures
