use Rattle.std.proofs.lemmas.Result.{err_from_is_err_and}
use Rattle.mk_race.proofs.InOrder.{order_on, order_unread}
use Rattle.mk_race.proofs.serialising.order_on.Goals as goal

pub returns-in_err-log-clause-answer : goal.returns-in_err-log-clause-answer
returns-in_err-log-clause-answer c =
    let p = err_from_is_err_and c.from_residual.result c.from_residual.ensures.1 in
    rw (p.1, p.2) (order_unread c.args.prepared.now c.args.log.now c.args.limit c.args.tie c.in_err-log.field-0.0 c.in_err-log.ensures)

pub returns-clause-answer : goal.returns-clause-answer
returns-clause-answer c =
    order_on c.args.prepared.now c.args.log.now c.args.limit c.args.tie c.in_ok-log.log c.order_of.result c.in_ok-log.ensures c.order_of.ensures.answer
