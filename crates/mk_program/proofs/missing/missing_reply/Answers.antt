use Rattle.std.proofs.lemmas.Result.{IfOk-weaker}
use Rattle.mk_program.specs.Answers.{IsMissingAnswer}
use Rattle.mk_program.proofs.Noted.{fault_noted, noting_is}
use Rattle.mk_program.proofs.missing.missing_reply.Goals as goal

pub returns-in_ok-answer-in-Ok-clause-answer : goal.returns-in_ok-answer-in-Ok-clause-answer
returns-in_ok-answer-in-Ok-clause-answer c =
    let found = c.list_missing-found in
    noting_is (λ texts lines. IsMissingAnswer texts lines) c.args.build c.args.strict c.in-Ok.noted c.in_ok-answer-in-Ok.answer c.with_note.result
    c.in-Ok.ensures.answer
    (λ texts lines from.
    let prepared = c.in-Ok.ensures.prepared texts lines from in
    c.in_ok-answer-in-Ok.ensures.answer texts lines (found.ensures.missing texts lines from.texts_are prepared)
    (IfOk-weaker found.result _ _ (λ given clean empty. clean empty texts lines from.texts_are prepared) found.ensures.headline))
    c.with_note.ensures.answer c.with_note.ensures.note

pub returns-in-Err-clause-answer : goal.returns-in-Err-clause-answer
returns-in-Err-clause-answer c = IfOk-weaker c.refused_reply.result _ _ (λ reply h texts lines from.
    fault_noted (IsMissingAnswer texts lines) c.args.strict texts lines c.in-Err.halt h.0 _ _ _
    (c.in-Err.ensures.answer texts lines from) h.1 h.2 h.3 h.4) c.refused_reply.ensures
