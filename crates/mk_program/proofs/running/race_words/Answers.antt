use Rattle.std.proofs.Common.{Err, ap, inl, inr, ◌∙◌, subst}
use Rattle.mk_program.specs.Answers.{IsAnswerTo}
use Rattle.mk_program.specs.declared.statuses.Status.{Status}
use Rattle.mk_program.proofs.Judged.{says_safe}
use Rattle.mk_program.proofs.Failing.{errors_same}
use Rattle.mk_program.proofs.Noted.{empty_or}
use Rattle.mk_program.proofs.running.race_words.Goals as goal

pub returns-in-Err-clause-reported : goal.returns-in-Err-clause-reported
returns-in-Err-clause-reported g c =
    let write = c.in-Err.ensures.write in
    λ is works. (c.in-Err.failure, c.in-Err.ensures.failure, (λ e. write.0 (ap Err e), λ fails. errors_same _ _ (write.1 fails)), c.fail.ensures.reported works)

pub returns-in-Ok-clause-answer : goal.returns-in-Ok-clause-answer
returns-in-Ok-clause-answer g c =
    λ right ends. (c.in-Ok.reply.answer.text.items, c.in-Ok.reply.note.items, c.in-Ok.ensures.written, c.in-Ok.ensures.said.answer right)

pub returns-in-Ok-clause-refused : goal.returns-in-Ok-clause-refused
returns-in-Ok-clause-refused g c =
    λ is. (c.in-Ok.reply.answer.text.items, c.in-Ok.reply.note.items, c.in-Ok.ensures.written, c.in-Ok.ensures.said.on_refused is)

pub returns-in-Ok-clause-no : goal.returns-in-Ok-clause-no
returns-in-Ok-clause-no g c =
    λ is. (c.in-Ok.reply.answer.text.items, c.in-Ok.reply.note.items, c.in-Ok.ensures.written, c.in-Ok.ensures.said.on_no is)

pub returns-in-Ok-clause-safe : goal.returns-in-Ok-clause-safe
returns-in-Ok-clause-safe g c =
    λ right check done. let reply = c.in-Ok.reply in
    says_safe c.args.words.now (g.P.Opener.files c.args.opener.now).text reply.answer.text.items reply.note.items check
    (subst (λ (s : Status). IsAnswerTo c.args.words.now (g.P.Opener.files c.args.opener.now).text s reply.answer.text.items reply.note.items) done
    (c.in-Ok.ensures.said.answer right))

pub returns-in-Ok-clause-note : goal.returns-in-Ok-clause-note
returns-in-Ok-clause-note g c =
    λ right ends works. (
      c.in-Ok.reply.answer.text.items,
      c.in-Ok.reply.note.items,
      c.in-Ok.ensures.written,
      rw c.as_slice.ensures.value at c.write_note.ensures.written works,
      c.in-Ok.ensures.said.answer right,
    )

pub returns-in-Ok-clause-silent : goal.returns-in-Ok-clause-silent
returns-in-Ok-clause-silent g c =
    λ ends. elim (empty_or c.in-Ok.reply.note.items) [
      | inl none ↦ inl (c.write_note.ensures.none (c.as_slice.ensures.value ∙ none))
      | inr some ↦ let right = c.in-Ok.ensures.said.noted some in
          inr (right, (c.in-Ok.reply.answer.text.items, c.in-Ok.reply.note.items, some, c.in-Ok.ensures.said.answer right))
    ]

pub returns-in-Ok-clause-usage : goal.returns-in-Ok-clause-usage
returns-in-Ok-clause-usage g c = λ ends. c.in-Ok.ensures.said.usable

pub returns-in-Ok-clause-read : goal.returns-in-Ok-clause-read
returns-in-Ok-clause-read g c = λ right ends. c.in-Ok.ensures.said.read right
