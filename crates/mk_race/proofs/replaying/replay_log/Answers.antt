use Rattle.std.proofs.Common.{Ok}
use Rattle.std.proofs.lemmas.Result.{err_from_is_err_and}
use Rattle.mk_log.specs.Logs.{Log}
use Rattle.mk_race.specs.declared.replaying.Played.TheVariants.{Allowed, NotAllowed}
use Rattle.mk_race.proofs.Staging.{log_unread, played}
use Rattle.mk_race.proofs.replaying.replay_log.Goals as goal

pub returns-in_err-log : goal.returns-in_err-log
returns-in_err-log c =
    let p = err_from_is_err_and c.from_residual.result c.from_residual.ensures.1 in
    rw (p.1, p.2) (log_unread c.args.prepared.now c.args.log.now c.args.limit c.args.tie c.in_err-log.field-0.0 c.in_err-log.ensures)

pub returns-in-Ok : goal.returns-in-Ok
returns-in-Ok c =
    let inside : Log = record { store = c.log.inside.store; events = c.log.inside.events.items } in
    played c.args.prepared.now c.args.log.now c.args.limit c.args.tie inside c.in_ok-log.log (Ok (Allowed c.in-Ok.replayed)) c.log.view_is c.in_ok-log.ensures
    (rw c.as_slice.ensures.value at c.in-Ok.ensures.ok)

pub returns-in-Err-Refused : goal.returns-in-Err-Refused
returns-in-Err-Refused c =
    let inside : Log = record { store = c.log.inside.store; events = c.log.inside.events.items } in
    let stopped = rw c.in-Err-Refused.field-0-is at c.in-Err-Refused.ensures.err in
    played c.args.prepared.now c.args.log.now c.args.limit c.args.tie inside c.in_ok-log.log (Ok (NotAllowed c.in-Err-Refused.place c.in-Err-Refused.refusal))
    c.log.view_is c.in_ok-log.ensures (c.in-Err-Refused.field-0-0, rw c.as_slice.ensures.value at stopped)
