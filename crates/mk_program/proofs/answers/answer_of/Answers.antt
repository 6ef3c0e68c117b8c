use Rattle.mk_program.proofs.answers.answer_of.Goals as goal

pub returns-clause-answer : goal.returns-clause-answer
returns-clause-answer g c =
    rw c.in_ok-with_fault.ensures.answer (c.in_ok-reply.reply.note.items, c.in_ok-reply.ensures.answer, c.in_ok-with_fault.ensures.said)
