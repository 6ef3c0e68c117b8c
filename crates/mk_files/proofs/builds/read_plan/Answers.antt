use Rattle.std.proofs.Common.{◌∙◌, List, ℕ, subst, sym}
use Rattle.std.proofs.lemmas.Result.{IfOk-weaker, err_from_is_err_and}
use Rattle.std.specs.List.{All}
use Rattle.mk_request.specs.Requests.{build_inputs}
use Rattle.mk_files.specs.Builds.{IsPlanRead, PlanStated, plan_stated_in}
use Rattle.mk_files.specs.Inputs.{IsFirstToFail, IsShortOr, Mark, MayWork}
use Rattle.mk_files.proofs.Building.{plan_marks_are, plan_read_as}
use Rattle.mk_files.proofs.Reading.{may_be_read, open_failure, read_failure}
use Rattle.mk_files.proofs.Reported.{err_more, ok_more}
use Rattle.mk_files.proofs.builds.read_plan.Goals as goal

pub returns-in_err-files-clause-failure : goal.returns-in_err-files-clause-failure
returns-in_err-files-clause-failure g c =
    let p = err_from_is_err_and c.from_residual.result c.from_residual.ensures.1 in
    let files = g.P.Opener.files c.args.opener.now in
    let build = c.args.build.now in
    rw (p.1, p.2) (open_failure files (build_inputs build) c.in_err-files.field-0.0
    (subst (λ (l : List Mark). IsShortOr (IsFirstToFail l) c.in_err-files.field-0.0) (sym (plan_marks_are files.opens build))
    c.in_err-files.ensures.failure))

pub returns-clause-read : goal.returns-clause-read
returns-clause-read g c =
    let files = g.P.Opener.files c.args.opener.now in
    let build = c.args.build.now in
    ok_more _ _ c.plan_in.result (may_be_read files (build_inputs build) _
    (subst (All MayWork) (sym (plan_marks_are files.opens build)) c.in_ok-files.ensures.opened)
    (c.in_ok-files.ensures.reads ∙ sym (plan_marks_are files.reads build))) c.plan_in.ensures.read

pub returns-clause-failure : goal.returns-clause-failure
returns-clause-failure g c =
    let files = g.P.Opener.files c.args.opener.now in
    let build = c.args.build.now in
    err_more _ _ c.plan_in.result (λ failure. read_failure files (build_inputs build) _ failure
    (subst (All MayWork) (sym (plan_marks_are files.opens build)) c.in_ok-files.ensures.opened)
    (c.in_ok-files.ensures.reads ∙ sym (plan_marks_are files.reads build))) c.plan_in.ensures.failure

pub returns-clause-reported : goal.returns-clause-reported
returns-clause-reported g c =
    let files = (g.P.Opener.files c.args.opener.now).text in
    let build = c.args.build.now in
    IfOk-weaker c.plan_in.result _ _ (λ read are text hold.
    plan_read_as files text build build.root.now read hold
    (subst (λ (stated : PlanStated). IsPlanRead stated build.root.now read) c.in_ok-files.ensures.reported
    (subst (λ (root : List ℕ). IsPlanRead (plan_stated_in g.P.File.Intake.left c.in_ok-files.files) root read) c.as_bytes.ensures.value are)))
    c.plan_in.ensures.reported
