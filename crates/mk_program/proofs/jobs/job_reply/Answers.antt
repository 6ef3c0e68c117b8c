use Rattle.std.proofs.Common.{Option, inl, inr, subst}
use Rattle.std.proofs.lemmas.Result.{IfOk-weaker, err_from_is_err_and}
use Rattle.mk_request.specs.Requests.{job_inputs}
use Rattle.mk_request.specs.declared.inputs.InputPath.{InputPath}
use Rattle.mk_files.specs.Inputs.{IsShortOr, IsUnread}
use Rattle.mk_files.proofs.Reported.{err_more}
use Rattle.mk_program.proofs.Replies.{read_is}
use Rattle.mk_program.proofs.jobs.job_reply.Goals as goal

pub returns-in_err-read-clause-failure : goal.returns-in_err-read-clause-failure
returns-in_err-read-clause-failure g c =
    let p = err_from_is_err_and c.from_residual.result c.from_residual.ensures.1 in
    let args = c.args.args.now in
    rw (p.1, p.2) (inl (subst (λ (o : Option InputPath). IsShortOr (IsUnread (g.P.Opener.files c.args.opener.now) (job_inputs args.build args.footprints o))
    c.in_err-read.field-0.0) c.other_input-other.ensures c.in_err-read.ensures.failure))

pub returns-clause-answer : goal.returns-clause-answer
returns-clause-answer g c =
    let args = c.args.args.now in
    let files = (g.P.Opener.files c.args.opener.now).text in
    IfOk-weaker c.reply_over.result _ _ (λ reply over text hold.
    over text (read_is args files c.other_input-other.result c.other_input-other.ensures c.in_ok-read.read c.in_ok-read.ensures.reported text hold))
    c.reply_over.ensures.answer

pub returns-clause-failure : goal.returns-clause-failure
returns-clause-failure g c =
    let args = c.args.args.now in
    let files = (g.P.Opener.files c.args.opener.now).text in
    err_more _ _ c.reply_over.result (λ failure fails. elim fails [
      | inl memory ↦ inl (inl memory)
      | inr no_text ↦ inr (
        no_text.0,
        λ text hold. no_text.1 text (read_is args files c.other_input-other.result c.other_input-other.ensures c.in_ok-read.read c.in_ok-read.ensures.reported text hold),
      )
    ]) c.reply_over.ensures.failure
