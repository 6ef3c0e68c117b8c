use Rattle.std.proofs.Common.{Ok}
use Rattle.std.proofs.lemmas.Result.{IfOk-weaker}
use Rattle.mk_race.specs.Serialised.{IsSerialisedOn}
use Rattle.mk_race.specs.Stages.{IsPrepared}
use Rattle.mk_race.specs.declared.preparing.Prepared.{Prepared}
use Rattle.mk_files.proofs.Reported.{err_more}
use Rattle.mk_program.proofs.Answering.{refusal_not_failed}
use Rattle.mk_program.proofs.Noted.{halts_on}
use Rattle.mk_program.proofs.SerialAnswers.{has_nodes, no_text_is, order_is, order_not_failed, unordered_is, unreported_more}
use Rattle.mk_program.proofs.serialising.serialised_of.Goals as goal

pub reported-requires : goal.reported-requires
reported-requires c = has_nodes c.args.prepared c.args.log.now c.args.tie c.in-Ok.given c.in-Ok.ensures.jobs c.in-Ok.ensures.lawful

pub returns-in-Ok-clause-status : goal.returns-in-Ok-clause-status
returns-in-Ok-clause-status c = IfOk-weaker c.reported.result _ _ (λ answer h. order_not_failed c.in-Ok.given.order answer.status h.0) c.reported.ensures.answer

pub returns-in-Ok-clause-answer : goal.returns-in-Ok-clause-answer
returns-in-Ok-clause-answer c =
    IfOk-weaker c.reported.result _ _ (λ answer h texts footprints is.
    order_is texts footprints c.args.log.now c.args.limit _ c.args.tie c.in-Ok.given _ _ (Ok c.args.prepared, is, c.in-Ok.ensures.answer)
    (c.in-Ok.ensures.law texts footprints is) c.from.ensures h.0 h.1) c.reported.ensures.answer

pub returns-in-Ok-clause-failure : goal.returns-in-Ok-clause-failure
returns-in-Ok-clause-failure c =
    err_more _ _ c.reported.result (λ failure. unreported_more _ _ failure (λ no_text texts footprints is.
    no_text_is texts footprints c.args.log.now c.args.limit _ c.args.tie c.in-Ok.given (Ok c.args.prepared, is, c.in-Ok.ensures.answer) c.from.ensures no_text))
    c.reported.ensures.failure

pub returns-in_ok-refused-in-Err-clause-status : goal.returns-in_ok-refused-in-Err-clause-status
returns-in_ok-refused-in-Err-clause-status c = refusal_not_failed _ c.in_ok-refused-in-Err.ensures.2

pub returns-in_ok-refused-in-Err-clause-answer : goal.returns-in_ok-refused-in-Err-clause-answer
returns-in_ok-refused-in-Err-clause-answer c = λ texts footprints is.
    unordered_is texts footprints c.args.log.now c.args.limit _ c.args.tie c.in-Err.halt c.in_ok-refused-in-Err.ensures.0 _ _
    (halts_on (IsPrepared texts footprints) (λ (p : Prepared). IsSerialisedOn p c.args.log.now _ c.args.tie) c.args.prepared c.in-Err.halt is c.in-Err.ensures.answer)
    c.in_ok-refused-in-Err.ensures.1 c.from.ensures c.in_ok-refused-in-Err.ensures.2 c.in_ok-refused-in-Err.ensures.3
