use Rattle.std.proofs.Common.{[]}
use Rattle.std.proofs.lemmas.Result.{err_from_is_err_and}
use Rattle.mk_include.specs.Includes.{texts_of as included_of}
use Rattle.mk_macro.specs.Macros.{macros_of}
use Rattle.mk_race.specs.Stages.{texts_with}
use Rattle.mk_race.proofs.Staging.{no_book, not_planned}
use Rattle.mk_race.proofs.planning.graph_of.Goals as goal

pub returns-in_err-plan : goal.returns-in_err-plan
returns-in_err-plan c =
    let p = err_from_is_err_and c.from_residual-in_err-plan.result c.from_residual-in_err-plan.ensures.1 in
    rw (p.1, p.2) (not_planned (texts_with c.args.input.now []) c.args.root.now c.args.goals.now (included_of c.args.includes.now) (macros_of c.args.macros.now) c.args.listing.now
    c.in_ok-book.book c.in_err-plan.field-0.0 c.in_ok-book.ensures c.in_err-plan.ensures)

pub returns-in_err-book : goal.returns-in_err-book
returns-in_err-book c =
    let p = err_from_is_err_and c.from_residual.result c.from_residual.ensures.1 in
    rw (p.1, p.2) (no_book (texts_with c.args.input.now []) c.args.root.now c.args.goals.now (included_of c.args.includes.now) (macros_of c.args.macros.now) c.args.listing.now
    c.in_err-book.field-0.0 c.in_err-book.ensures)
