use Rattle.std.proofs.Common.{◌≢◌, subst, sym}
use Rattle.mk_program.specs.declared.answers.Answer.{Answer}
use Rattle.mk_program.specs.declared.statuses.Status.TheVariants.{Failed}
use Rattle.mk_program.proofs.noting.reply_on.Goals as goal

pub returns-clause-status : goal.returns-clause-status
returns-clause-status g c =
    subst (λ (a : Answer). a.status ≢ Failed) (sym c.in_ok-with_note.ensures.answer) c.in_ok-answer.ensures.status

pub returns-clause-answer : goal.returns-clause-answer
returns-clause-answer g c = λ texts footprints is.
    subst (λ (a : Answer). g.Q.Question.says c.args.question.now texts footprints c.args.other.now a.status a.text.items)
    (sym c.in_ok-with_note.ensures.answer) (c.in_ok-answer.ensures.answer texts footprints is)
