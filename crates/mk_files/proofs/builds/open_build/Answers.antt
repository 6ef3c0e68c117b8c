use Rattle.std.proofs.Common.{◌∙◌, Option, option_map, subst}
use Rattle.std.proofs.lemmas.Result.{err_from_is_err_and}
use Rattle.std.specs.List.{All}
use Rattle.std.specs.Option.{option_to_list}
use Rattle.mk_files.specs.Builds.{path_mark, plan_path_marks}
use Rattle.mk_files.specs.Files.{Files}
use Rattle.mk_files.specs.Inputs.{IsFirstToFail, IsShortOr, Mark, MayWork}
use Rattle.mk_request.specs.declared.inputs.InputFile.TheVariants as inputs
use Rattle.mk_request.specs.declared.inputs.InputPath.{InputPath}
use Rattle.mk_files.proofs.Building.{all_work, footprints_fail, other_fails, plan_fails, still_opens, still_shut}
use Rattle.mk_files.proofs.builds.open_build.Goals as goal

-- the mark of the last, which may not be given
abbrev last : Files → Option InputPath → Option Mark
last files other = option_map (path_mark files.opens) other

pub returns-in_err-plan-clause-failure : goal.returns-in_err-plan-clause-failure
returns-in_err-plan-clause-failure g c =
    let p = err_from_is_err_and c.from_residual.result c.from_residual.ensures.1 in
    let files = g.P.Opener.files c.args.opener.now in
    rw (p.1, p.2) (plan_fails (plan_path_marks files.opens c.args.build.now) (inputs.Footprints, files.opens c.args.footprints.now)
    (last files c.args.other) _ c.in_err-plan.ensures.failure)

pub returns-in_err-footprints-clause-failure : goal.returns-in_err-footprints-clause-failure
returns-in_err-footprints-clause-failure g c =
    let p = err_from_is_err_and c.from_residual-in_err-footprints.result c.from_residual-in_err-footprints.ensures.1 in
    let files = g.P.Opener.files c.args.opener.now in
    rw (p.1, p.2) (footprints_fail (plan_path_marks files.opens c.args.build.now) (inputs.Footprints, files.opens c.args.footprints.now)
    (last files c.args.other) _ c.in_ok-plan.ensures.opened
    (still_shut files _ c.args.footprints.now inputs.Footprints _ c.open_plan.ensures.same c.in_err-footprints.ensures.cannot))

pub returns-in_err-other-clause-failure : goal.returns-in_err-other-clause-failure
returns-in_err-other-clause-failure g c =
    let p = err_from_is_err_and c.from_residual-in_err-other.result c.from_residual-in_err-other.ensures.1 in
    let files = g.P.Opener.files c.args.opener.now in
    rw (p.1, p.2) (other_fails (plan_path_marks files.opens c.args.build.now) (inputs.Footprints, files.opens c.args.footprints.now)
    (last files c.args.other) _ c.in_ok-plan.ensures.opened
    (still_opens files _ c.args.footprints.now c.open_plan.ensures.same c.in_ok-footprints.ensures.can)
    (subst (λ (f : Files). IsShortOr (IsFirstToFail (option_to_list (last f c.args.other))) c.in_err-other.field-0.0)
    (c.opened.ensures.same ∙ c.open_plan.ensures.same) c.in_err-other.ensures.cannot))

pub returns-clause-opened : goal.returns-clause-opened
returns-clause-opened g c =
    let files = g.P.Opener.files c.args.opener.now in
    all_work (plan_path_marks files.opens c.args.build.now) (inputs.Footprints, files.opens c.args.footprints.now) (last files c.args.other)
    c.in_ok-plan.ensures.opened (still_opens files _ c.args.footprints.now c.open_plan.ensures.same c.in_ok-footprints.ensures.can)
    (subst (λ (f : Files). All MayWork (option_to_list (last f c.args.other))) (c.opened.ensures.same ∙ c.open_plan.ensures.same) c.in_ok-other.ensures.can)
