use Rattle.mk_program.proofs.running.answer_written.Goals as goal

pub returns-in-Ok-clause-written : goal.returns-in-Ok-clause-written
returns-in-Ok-clause-written g c = rw c.as_slice.ensures.value at c.in-Ok.ensures.all

pub returns-in-Err-clause-beginning : goal.returns-in-Err-clause-beginning
returns-in-Err-clause-beginning g c =
    λ taken failed. (
      c.in_ok-reply.reply.answer.status,
      c.in_ok-reply.reply.answer.text.items,
      c.in_ok-reply.reply.note.items,
      rw c.as_slice.ensures.value at c.in-Err.ensures.beginning,
      c.in_ok-reply.ensures.said.answer taken,
    )
