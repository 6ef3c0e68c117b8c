use Rattle.std.proofs.Common.{subst, sym}
use Rattle.std.proofs.lemmas.Result.{IfOk-weaker, err_from_is_err_and}
use Rattle.mk_race.specs.Unused.{WereRead}
use Rattle.mk_race.specs.declared.preparing.Prepared.{Prepared}
use Rattle.mk_race.proofs.NotedAhead.{build_prepared}
use Rattle.mk_race.proofs.Noting.{lax_is, not_noted_by, strict_is}
use Rattle.mk_race.proofs.unused.note_build.Goals as goal

pub returns-in_err-noted-clause-answer : goal.returns-in_err-noted-clause-answer
returns-in_err-noted-clause-answer c =
    let p = err_from_is_err_and c.from_residual.result c.from_residual.ensures.1 in
    rw (p.1, p.2) (λ texts lines from.
    not_noted_by texts lines c.args.strict c.in_err-noted.field-0.0 (c.in_err-noted.ensures.answer texts lines from))

pub returns-then-not-strict-clause-answer : goal.returns-then-not-strict-clause-answer
returns-then-not-strict-clause-answer c = λ texts lines from.
    lax_is texts lines c.args.strict c.in_ok-noted.noted (c.in_ok-noted.ensures.answer texts lines from) c.if-not-strict.true

pub returns-then-not-strict-clause-prepared : goal.returns-then-not-strict-clause-prepared
returns-then-not-strict-clause-prepared c = λ texts lines from. (c.in_ok-noted.ensures.answer texts lines from).0

pub returns-clause-answer : goal.returns-clause-answer
returns-clause-answer c = λ texts lines from.
    strict_is texts lines c.args.strict c.in_ok-noted.noted c.strictly.result
    (c.in_ok-noted.ensures.answer texts lines from) c.if-not-strict.false c.strictly.ensures.answer

pub returns-clause-prepared : goal.returns-clause-prepared
returns-clause-prepared c =
    build_prepared c.args.build c.args.strict c.strictly.result (λ texts lines from.
    strict_is texts lines c.args.strict c.in_ok-noted.noted c.strictly.result
    (c.in_ok-noted.ensures.answer texts lines from) c.if-not-strict.false c.strictly.ensures.answer)

pub returns-clause-read : goal.returns-clause-read
returns-clause-read c =
    IfOk-weaker c.strictly.result _ _ (λ given same.
    subst (λ (prepared : Prepared). WereRead c.args.build.listing c.args.build.footprints prepared) (sym same) c.in_ok-noted.ensures.read) c.strictly.ensures.prepared
