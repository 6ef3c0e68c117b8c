use Rattle.std.proofs.Common.{Some, true}
use Rattle.std.proofs.lemmas.Result.{err_from_is_err_and}
use Rattle.mk_files.proofs.Building.{plan_given, plan_goes, plan_stops}
use Rattle.mk_files.proofs.builds.plan_in.Goals as goal

pub returns-in_err-read-clause-failure : goal.returns-in_err-read-clause-failure
returns-in_err-read-clause-failure g c =
    let p = err_from_is_err_and c.from_residual.result c.from_residual.ensures.1 in
    let files = c.args.files in
    rw (p.1, p.2) (plan_stops g.F.Intake.readable files.base files.makefile files.listing c.in_err-read.field-0.0 c.in_err-read.ensures.cannot)

pub returns-clause-reported : goal.returns-clause-reported
returns-clause-reported g c =
    let files = c.args.files in
    let read = c.in_ok-read.ensures in
    plan_given g.F.Intake.left files.base files.makefile files.listing c.args.root.now c.in_ok-read.read _ _ _ read.base read.makefile read.listing

pub returns-clause-read : goal.returns-clause-read
returns-clause-read g c =
    let files = c.args.files in
    plan_goes g.F.Intake.readable files.base files.makefile files.listing (Some true) c.in_ok-read.ensures.can
