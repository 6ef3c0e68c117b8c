use Rattle.std.proofs.Common.{◌∙◌, List, ℕ, subst, sym}
use Rattle.std.proofs.lemmas.Result.{IfOk-weaker, err_from_is_err_and}
use Rattle.std.specs.List.{All}
use Rattle.mk_request.specs.Requests.{job_inputs}
use Rattle.mk_files.specs.Builds.{AreRead, Stated, stated_in}
use Rattle.mk_files.specs.Inputs.{IsFirstToFail, IsShortOr, Mark, MayWork}
use Rattle.mk_files.proofs.Building.{marks_are, read_as}
use Rattle.mk_files.proofs.Reading.{may_be_read, open_failure, read_failure}
use Rattle.mk_files.proofs.Reported.{err_more, ok_more}
use Rattle.mk_files.proofs.builds.read_build.Goals as goal

pub returns-in_err-files-clause-failure : goal.returns-in_err-files-clause-failure
returns-in_err-files-clause-failure g c =
    let p = err_from_is_err_and c.from_residual.result c.from_residual.ensures.1 in
    let files = g.P.Opener.files c.args.opener.now in
    let build = c.args.build.now in
    rw (p.1, p.2) (open_failure files (job_inputs build c.args.footprints c.args.other) c.in_err-files.field-0.0
    (subst (λ (l : List Mark). IsShortOr (IsFirstToFail l) c.in_err-files.field-0.0) (sym (marks_are files.opens build c.args.footprints c.args.other))
    c.in_err-files.ensures.failure))

pub returns-clause-read : goal.returns-clause-read
returns-clause-read g c =
    let files = g.P.Opener.files c.args.opener.now in
    let build = c.args.build.now in
    ok_more _ _ c.build_in.result (may_be_read files (job_inputs build c.args.footprints c.args.other) _
    (subst (All MayWork) (sym (marks_are files.opens build c.args.footprints c.args.other)) c.in_ok-files.ensures.opened)
    (c.in_ok-files.ensures.reads ∙ sym (marks_are files.reads build c.args.footprints c.args.other))) c.build_in.ensures.read

pub returns-clause-failure : goal.returns-clause-failure
returns-clause-failure g c =
    let files = g.P.Opener.files c.args.opener.now in
    let build = c.args.build.now in
    err_more _ _ c.build_in.result (λ failure. read_failure files (job_inputs build c.args.footprints c.args.other) _ failure
    (subst (All MayWork) (sym (marks_are files.opens build c.args.footprints c.args.other)) c.in_ok-files.ensures.opened)
    (c.in_ok-files.ensures.reads ∙ sym (marks_are files.reads build c.args.footprints c.args.other))) c.build_in.ensures.failure

pub returns-clause-reported : goal.returns-clause-reported
returns-clause-reported g c =
    let files = (g.P.Opener.files c.args.opener.now).text in
    let build = c.args.build.now in
    IfOk-weaker c.build_in.result _ _ (λ read are text none hold.
    read_as files text build c.args.footprints c.args.other build.root.now read none hold
    (subst (λ (stated : Stated). AreRead stated build.root.now read) c.in_ok-files.ensures.reported
    (subst (λ (root : List ℕ). AreRead (stated_in g.P.File.Intake.left c.in_ok-files.files) root read) c.as_bytes.ensures.value are)))
    c.build_in.ensures.reported
