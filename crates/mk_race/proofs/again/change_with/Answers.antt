use Rattle.std.proofs.Common.{[], Ok}
use Rattle.std.proofs.lemmas.Result.{IfOk-weaker}
use Rattle.mk_race.specs.Stages.{texts_with}
use Rattle.mk_race.proofs.Replanned.{refused_is}
use Rattle.mk_race.proofs.again.change_with.Goals as goal

pub returns-in-Ok : goal.returns-in-Ok
returns-in-Ok c = (Ok c.in-Ok.planned, c.in-Ok.ensures, c.first_change.ensures)

pub returns-in-Err : goal.returns-in-Err
returns-in-Err c =
    IfOk-weaker c.refusal_of.result _ _ (λ change h.
    refused_is (texts_with c.args.input.now []) c.args.listing c.args.jobs.now c.in-Err.halt h.0 change c.in-Err.ensures h.1 h.2) c.refusal_of.ensures
