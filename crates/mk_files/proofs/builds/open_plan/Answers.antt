use Rattle.std.proofs.Common.{◌∙◌, ℕ, List, Option, option_map}
use Rattle.std.proofs.lemmas.Result.{err_from_is_err_and}
use Rattle.std.specs.Borrow.{Bor}
use Rattle.mk_files.specs.Builds.{base_mark}
use Rattle.mk_files.specs.Files.{Files}
use Rattle.mk_files.specs.Inputs.{Mark}
use Rattle.mk_request.specs.declared.inputs.InputFile.TheVariants as inputs
use Rattle.mk_request.specs.declared.requests.BuildArgs.{BuildArgs}
use Rattle.mk_files.proofs.Building.{base_fails, listing_fails, plan_works, still_opens, still_shut}
use Rattle.mk_files.proofs.builds.open_plan.Goals as goal

-- the mark of the base, which may not be given
abbrev first : Files → BuildArgs → Option Mark
first files build = option_map (λ (path : Bor (List ℕ)). base_mark files.opens path.now) build.base

pub returns-in_err-base-clause-failure : goal.returns-in_err-base-clause-failure
returns-in_err-base-clause-failure g c =
    let p = err_from_is_err_and c.from_residual.result c.from_residual.ensures.1 in
    let files = g.P.Opener.files c.args.opener.now in
    let build = c.args.build.now in
    rw (p.1, p.2) (base_fails (first files build) (inputs.Makefile, files.opens build.makefile.now) (inputs.Listing, files.opens build.listing.now) _
    c.in_err-base.ensures.cannot)

pub returns-in_err-listing-clause-failure : goal.returns-in_err-listing-clause-failure
returns-in_err-listing-clause-failure g c =
    let p = err_from_is_err_and c.from_residual-in_err-listing.result c.from_residual-in_err-listing.ensures.1 in
    let files = g.P.Opener.files c.args.opener.now in
    let build = c.args.build.now in
    rw (p.1, p.2) (listing_fails (first files build) (inputs.Makefile, files.opens build.makefile.now) (inputs.Listing, files.opens build.listing.now) _
    c.in_ok-base.ensures.can
    (still_opens files _ build.makefile.now c.opened_base.ensures.same c.in_ok-makefile.ensures.can)
    (still_shut files _ build.listing.now inputs.Listing _ (c.opened.ensures.same ∙ c.opened_base.ensures.same) c.in_err-listing.ensures.cannot))

pub returns-clause-opened : goal.returns-clause-opened
returns-clause-opened g c =
    let files = g.P.Opener.files c.args.opener.now in
    let build = c.args.build.now in
    let makes = c.opened.ensures.same ∙ c.opened_base.ensures.same in
    plan_works (first files build) (inputs.Makefile, files.opens build.makefile.now) (inputs.Listing, files.opens build.listing.now)
    c.in_ok-base.ensures.can
    (still_opens files _ build.makefile.now c.opened_base.ensures.same c.in_ok-makefile.ensures.can)
    (still_opens files _ build.listing.now makes c.in_ok-listing.ensures.can)
