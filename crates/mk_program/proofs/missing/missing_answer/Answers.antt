use Rattle.std.proofs.lemmas.Result.{IfOk-weaker}
use Rattle.mk_race.specs.Missing.{BuildsAsClean, IsMissingList}
use Rattle.mk_program.proofs.Answering.{refusal_not_failed}
use Rattle.mk_program.proofs.MissingAnswers.{listed_is, missing_not_failed, unlisted_is}
use Rattle.mk_program.proofs.missing.missing_answer.Goals as goal

pub returns-in-Ok-clause-status : goal.returns-in-Ok-clause-status
returns-in-Ok-clause-status c = IfOk-weaker c.listed_answer.result _ _ (λ answer h. missing_not_failed c.in-Ok.listed answer.status h.0) c.listed_answer.ensures

pub returns-in-Ok-clause-answer : goal.returns-in-Ok-clause-answer
returns-in-Ok-clause-answer c =
    IfOk-weaker c.listed_answer.result _ _ (λ answer h texts footprints is clean.
    listed_is (IsMissingList texts footprints) (BuildsAsClean texts footprints) c.in-Ok.listed answer.status answer.text.items
    (rw c.in-Ok.is at is) (rw c.in-Ok.is at clean) h.0 h.1) c.listed_answer.ensures

pub returns-in-Err-clause-status : goal.returns-in-Err-clause-status
returns-in-Err-clause-status c = IfOk-weaker c.refused.result _ _ (λ answer h. refusal_not_failed answer.status h.2) c.refused.ensures

pub returns-in-Err-clause-answer : goal.returns-in-Err-clause-answer
returns-in-Err-clause-answer c =
    IfOk-weaker c.refused.result _ _ (λ answer h texts footprints is clean.
    unlisted_is (IsMissingList texts footprints) (BuildsAsClean texts footprints) c.in-Err.halt h.0 answer.status answer.text.items
    (rw c.in-Err.is at is) h.1 h.2 h.3) c.refused.ensures
