use Rattle.std.proofs.Common.{◌∙◌, subst, sym}
use Rattle.mk_program.specs.Answers.{IsTasksAnswer}
use Rattle.mk_program.specs.declared.answers.Answer.{Answer}
use Rattle.mk_program.proofs.Replies.{are_texts}
use Rattle.mk_program.proofs.tasks.tasks_reply.Goals as goal

pub returns-clause-answer : goal.returns-clause-answer
returns-clause-answer g c =
    let read = are_texts _ _ _ _ _ (c.as_slice.ensures.value ∙ c.in_ok-inputs.ensures) c.as_slice-2.ensures.value c.in_ok-texts.ensures.reported in
    λ text hold. (
      subst (λ (a : Answer). IsTasksAnswer c.args.args.now.question c.args.args.now.root.now text a.status a.text.items)
          (sym c.without_note.ensures.answer) (c.in_ok-answer.ensures.answer text (read text hold)),
      c.without_note.ensures.note,
    )
