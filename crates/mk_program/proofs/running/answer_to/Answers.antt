use Rattle.mk_program.proofs.Failing.{answered, helped, input_failure, not_written, not_written_either, usage_failure}
use Rattle.mk_files.proofs.Reported.{err_more, with_fact}
use Rattle.mk_program.proofs.running.answer_to.Goals as goal

pub returns-in-Ok-clause-said : goal.returns-in-Ok-clause-said
returns-in-Ok-clause-said g c =
    with_fact _ _ _ c.answer_of.result (λ reply read is.
    answered c.args.words.now (g.P.Opener.files c.args.opener.now) c.in-Ok.request _ _ _ c.in-Ok.ensures.values c.in-Ok.ensures.kinds read is)
    c.answer_of.ensures.read c.answer_of.ensures.answer

pub returns-in-Ok-clause-write : goal.returns-in-Ok-clause-write
returns-in-Ok-clause-write g c = err_more _ _ c.answer_of.result (λ failure. not_written (g.P.Opener.files c.args.opener.now) c.in-Ok.request failure) c.answer_of.ensures.failure

pub returns-in-Ok-clause-failure : goal.returns-in-Ok-clause-failure
returns-in-Ok-clause-failure g c =
    err_more _ _ c.answer_of.result (λ failure. input_failure c.args.words.now (g.P.Opener.files c.args.opener.now) c.in-Ok.request failure c.in-Ok.ensures.values)
    c.answer_of.ensures.failure

pub returns-in-Err-clause-said : goal.returns-in-Err-clause-said
returns-in-Err-clause-said g c =
    helped c.args.words.now (g.P.Opener.files c.args.opener.now) c.in-Err.error c.called_for.result _
    (λ reply. reply.answer.status) (λ reply. reply.answer.text.items) (λ reply. reply.note.items)
    c.in-Err.ensures.kinds c.called_for.ensures.memory c.called_for.ensures.status c.called_for.ensures.note c.called_for.ensures.call

pub returns-in-Err-clause-write : goal.returns-in-Err-clause-write
returns-in-Err-clause-write g c = err_more _ _ c.called_for.result (λ failure. not_written_either _ failure) c.called_for.ensures.failure

pub returns-in-Err-clause-failure : goal.returns-in-Err-clause-failure
returns-in-Err-clause-failure g c =
    err_more _ _ c.called_for.result (λ failure. usage_failure c.args.words.now (g.P.Opener.files c.args.opener.now) c.in-Err.error failure c.in-Err.ensures.kinds)
    c.called_for.ensures.failure
