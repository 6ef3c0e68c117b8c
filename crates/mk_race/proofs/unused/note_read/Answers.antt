use Rattle.std.proofs.Common.{[], Err}
use Rattle.std.proofs.lemmas.Result.{err_from_is_err_and}
use Rattle.mk_race.specs.Stages.{texts_with}
use Rattle.mk_race.proofs.Listed.{noted_are_listed}
use Rattle.mk_race.proofs.NotedAhead.{build_noted, noted_behind, noted_were_read, not_planned}
use Rattle.mk_race.proofs.unused.note_read.Goals as goal

pub returns-in_err-planned-clause-answer : goal.returns-in_err-planned-clause-answer
returns-in_err-planned-clause-answer c =
    let p = err_from_is_err_and c.from_residual.result c.from_residual.ensures.1 in
    let build = c.args.build in
    rw (p.1, p.2) (build_noted build (Err c.in_err-planned.field-0.0)
    (not_planned (texts_with build.input []) build.listing build.footprints c.in_err-planned.field-0.0 c.in_err-planned.ensures))

pub returns-clause-answer : goal.returns-clause-answer
returns-clause-answer c =
    let build = c.args.build in
    build_noted build c.noted_on.result
    (noted_behind (texts_with build.input []) build.listing build.footprints c.in_ok-planned.planned c.noted_on.result c.in_ok-planned.ensures
    c.noted_on.ensures)

pub returns-clause-listed : goal.returns-clause-listed
returns-clause-listed c =
    let build = c.args.build in
    noted_are_listed (texts_with build.input []) build.listing build.footprints c.noted_on.result
    (noted_behind (texts_with build.input []) build.listing build.footprints c.in_ok-planned.planned c.noted_on.result c.in_ok-planned.ensures
    c.noted_on.ensures)

pub returns-clause-read : goal.returns-clause-read
returns-clause-read c =
    let build = c.args.build in
    noted_were_read (texts_with build.input []) build.listing build.footprints c.noted_on.result
    (noted_behind (texts_with build.input []) build.listing build.footprints c.in_ok-planned.planned c.noted_on.result c.in_ok-planned.ensures
    c.noted_on.ensures)
