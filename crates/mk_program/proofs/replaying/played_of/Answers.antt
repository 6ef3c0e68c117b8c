use Rattle.std.proofs.Common.{Ok}
use Rattle.std.proofs.lemmas.Result.{IfOk-weaker}
use Rattle.mk_race.specs.Played.{IsPlayedOn}
use Rattle.mk_race.specs.Stages.{IsPrepared}
use Rattle.mk_race.specs.declared.preparing.Prepared.{Prepared}
use Rattle.mk_program.proofs.Answering.{outcome_is, refusal_not_failed, refused_is}
use Rattle.mk_program.proofs.Noted.{halts_on}
use Rattle.mk_program.proofs.replaying.played_of.Goals as goal

pub returns-in-Err-clause-status : goal.returns-in-Err-clause-status
returns-in-Err-clause-status c = IfOk-weaker c.refused.result _ _ (λ answer h. refusal_not_failed answer.status h.2) c.refused.ensures

pub returns-in-Err-clause-answer : goal.returns-in-Err-clause-answer
returns-in-Err-clause-answer c =
    IfOk-weaker c.refused.result _ _ (λ answer h texts footprints is.
    refused_is texts footprints c.args.log.now c.args.limit _ c.args.tie c.in-Err.halt h.0 _ _
    (halts_on (IsPrepared texts footprints) (λ (p : Prepared). IsPlayedOn p c.args.log.now _ c.args.tie) c.args.prepared.now c.in-Err.halt is c.in-Err.ensures)
    h.1 c.from.ensures h.2 h.3) c.refused.ensures

pub returns-in-Ok-clause-answer : goal.returns-in-Ok-clause-answer
returns-in-Ok-clause-answer c =
    IfOk-weaker c.outcome_answer.result _ _ (λ answer h texts footprints is.
    outcome_is texts footprints c.args.log.now c.args.limit _ c.args.tie c.in-Ok.played _ _
    (Ok c.args.prepared.now, is, c.in-Ok.ensures) c.from.ensures h.0 h.1) c.outcome_answer.ensures
