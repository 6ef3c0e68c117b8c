use Rattle.std.proofs.Common.{Ok, inl, inr}
use Rattle.mk_files.proofs.Reported.{err_more}
use Rattle.mk_program.proofs.Noted.{fault_noted, with_note}
use Rattle.mk_program.proofs.noting.noted_reply.Goals as goal

pub returns-in-Ok-clause-answer : goal.returns-in-Ok-clause-answer
returns-in-Ok-clause-answer g c =
    with_note c.reply_on.result _ _ _ (λ reply said noting texts lines from.
    (Ok c.in-Ok.noted, c.in-Ok.ensures.answer texts lines from, (said texts lines (c.in-Ok.ensures.prepared texts lines from), noting)))
    c.reply_on.ensures.answer c.reply_on.ensures.note

pub returns-in-Ok-clause-failure : goal.returns-in-Ok-clause-failure
returns-in-Ok-clause-failure g c =
    err_more _ _ c.reply_on.result (λ failure failed. elim failed [
      | inl memory ↦ inl memory
      | inr no_text ↦ inr (no_text.0, λ texts lines from. no_text.1 texts lines (c.in-Ok.ensures.prepared texts lines from))
    ]) c.reply_on.ensures.failure

pub returns-in_ok-refused_reply-in-Err-clause-answer : goal.returns-in_ok-refused_reply-in-Err-clause-answer
returns-in_ok-refused_reply-in-Err-clause-answer g c = λ texts lines from.
    let h = c.in_ok-refused_reply-in-Err.ensures in
    fault_noted (g.Q.Question.says c.args.question.now texts lines c.args.other.now) c.args.strict texts lines c.in-Err.halt h.0 _ _ _
    (c.in-Err.ensures.answer texts lines from) h.1 h.2 h.3 h.4
