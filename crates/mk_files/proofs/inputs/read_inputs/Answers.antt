use Rattle.std.proofs.Common.{◌∙◌}
use Rattle.std.proofs.lemmas.Result.{err_from_is_err_and}
use Rattle.mk_files.proofs.Reading.{may_be_read, open_failure, read_failure, texts_read}
use Rattle.mk_files.proofs.Reported.{both_ok, err_more, ok_more}
use Rattle.mk_files.proofs.inputs.read_inputs.Goals as goal

pub returns-clause-reported : goal.returns-clause-reported
returns-clause-reported g c =
    both_ok _ _ _ c.read_files.result (λ texts named each text hold.
    texts_read _ _ texts.items text (named ∙ c.in_ok-files.ensures.named) (each text (c.in_ok-files.ensures.reported text hold.each)) hold)
    c.read_files.ensures.named c.read_files.ensures.reported

pub returns-clause-read : goal.returns-clause-read
returns-clause-read g c =
    ok_more _ _ c.read_files.result (may_be_read (g.P.Opener.files c.args.opener.now) c.args.inputs.now _ c.in_ok-files.ensures.opened c.in_ok-files.ensures.reads) c.read_files.ensures.read

pub returns-clause-failure : goal.returns-clause-failure
returns-clause-failure g c =
    err_more _ _ c.read_files.result (λ failure. read_failure (g.P.Opener.files c.args.opener.now) c.args.inputs.now _ failure c.in_ok-files.ensures.opened c.in_ok-files.ensures.reads)
    c.read_files.ensures.failure

pub returns-in_err-files-clause-failure : goal.returns-in_err-files-clause-failure
returns-in_err-files-clause-failure g c =
    let p = err_from_is_err_and c.from_residual.result c.from_residual.ensures.1 in
    rw (p.1, p.2) (open_failure (g.P.Opener.files c.args.opener.now) c.args.inputs.now _ c.in_err-files.ensures.failure)
