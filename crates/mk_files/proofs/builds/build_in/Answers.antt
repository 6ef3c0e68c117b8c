use Rattle.std.proofs.Common.{List, ℕ, option_map, subst}
use Rattle.std.proofs.lemmas.Result.{err_from_is_err_and}
use Rattle.mk_files.specs.Builds.{mark_of, open_plan_marks}
use Rattle.mk_read.proofs.Gave.{all_given}
use Rattle.mk_read.specs.Builds.{IsFootprinted}
use Rattle.mk_request.specs.declared.inputs.InputFile.TheVariants as inputs
use Rattle.mk_files.proofs.Building.{all_work, build_stops, other_fails, plan_given, plan_goes}
use Rattle.mk_files.proofs.builds.build_in.Goals as goal

pub returns-in_err-build-clause-failure : goal.returns-in_err-build-clause-failure
returns-in_err-build-clause-failure g c =
    let p = err_from_is_err_and c.from_residual.result c.from_residual.ensures.1 in
    let files = c.args.files in
    let plan = files.plan in
    rw (p.1, p.2) (build_stops g.F.Intake.readable plan.base plan.makefile plan.listing files.footprints (option_map (mark_of g.F.Intake.readable) files.other)
    c.in_err-build.field-0.0 c.in_err-build.ensures.cannot)

pub returns-in_err-other-clause-failure : goal.returns-in_err-other-clause-failure
returns-in_err-other-clause-failure g c =
    let p = err_from_is_err_and c.from_residual-in_err-other.result c.from_residual-in_err-other.ensures.1 in
    let files = c.args.files in
    let plan = files.plan in
    let reads = g.F.Intake.readable in
    let can = c.in_ok-build.ensures.can in
    rw (p.1, p.2) (other_fails (open_plan_marks reads plan) (inputs.Footprints, reads files.footprints) (option_map (mark_of reads) files.other) _
    (plan_goes reads plan.base plan.makefile plan.listing _ can) can.footprints c.in_err-other.ensures.cannot)

pub returns-clause-read : goal.returns-clause-read
returns-clause-read g c =
    let files = c.args.files in
    let plan = files.plan in
    let reads = g.F.Intake.readable in
    let can = c.in_ok-build.ensures.can in
    all_work (open_plan_marks reads plan) (inputs.Footprints, reads files.footprints) (option_map (mark_of reads) files.other)
    (plan_goes reads plan.base plan.makefile plan.listing _ can) can.footprints c.in_ok-other.ensures.can

pub returns-clause-reported : goal.returns-clause-reported
returns-clause-reported g c =
    let files = c.args.files in
    let plan = files.plan in
    let read = c.in_ok-build.ensures in
    let found = read.footprints in
    record {
      plan = plan_given g.F.Intake.left plan.base plan.makefile plan.listing c.args.root.now c.in_ok-build.build.plan _ _ _ read.base read.makefile read.listing;
      footprints = λ text is.
          subst (λ (t : List ℕ). IsFootprinted c.args.root.now t c.in_ok-build.build.footprints) (all_given _ _ found.0 text found.1 is) found.2;
      other = c.in_ok-other.ensures.text;
    }
