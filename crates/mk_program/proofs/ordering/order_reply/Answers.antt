use Rattle.std.proofs.Common.{subst, sym}
use Rattle.mk_program.specs.Answers.{IsOrderAnswer, texts_for}
use Rattle.mk_program.specs.declared.answers.Answer.{Answer}
use Rattle.mk_program.proofs.Answering.{pairs}
use Rattle.mk_program.proofs.ordering.order_reply.Goals as goal

pub returns-clause-answer : goal.returns-clause-answer
returns-clause-answer g c = λ text hold. (
  subst (λ (a : Answer). IsOrderAnswer (texts_for c.args.build.now (pairs c.args.includes.now) text) a.status a.text.items)
      (sym c.without_note.ensures.answer) (c.in_ok-answer.ensures.answer text (c.in_ok-read.ensures.reported text hold)),
  c.without_note.ensures.note,
)
