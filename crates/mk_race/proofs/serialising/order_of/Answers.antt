use Rattle.mk_log.specs.Logs.{Log}
use Rattle.mk_race.proofs.InOrder.{replayed_log, whole_of, whole_run}
use Rattle.mk_race.proofs.serialising.order_of.Goals as goal

-- src/serialising.rt:139:46
pub whole_order-requires-clause-whole : goal.whole_order-requires-clause-whole
whole_order-requires-clause-whole c =
    let inside : Log = record { store = c.log.inside.store; events = c.log.inside.events.items } in
    let replayed = replayed_log c.args.jobs.now c.args.listing.now c.args.tie c.args.limit inside c.args.log c.in_ok-store.store c.in-Ok.replayed.store c.in-Ok.replayed.complete c.log.view_is c.in_ok-store.ensures
    (rw c.as_slice.ensures.value at c.in-Ok.ensures.ok) in
    whole_run c.args.jobs.now c.args.listing.now c.args.tie c.args.limit c.args.log (whole_of c.args.jobs.now c.args.listing.now c.args.tie c.args.limit c.args.log c.in-Ok.replayed.store c.in-Ok.replayed.complete replayed c.if-replay.true)

-- src/serialising.rt:128:1
pub returns-in-Ok-clause-answer : goal.returns-in-Ok-clause-answer
returns-in-Ok-clause-answer c =
    let inside : Log = record { store = c.log.inside.store; events = c.log.inside.events.items } in
    let replayed = replayed_log c.args.jobs.now c.args.listing.now c.args.tie c.args.limit inside c.args.log c.in_ok-store.store c.in-Ok.replayed.store c.in-Ok.replayed.complete c.log.view_is c.in_ok-store.ensures
    (rw c.as_slice.ensures.value at c.in-Ok.ensures.ok) in
    c.whole_order.ensures.answer c.args.listing.now c.args.limit (whole_of c.args.jobs.now c.args.listing.now c.args.tie c.args.limit c.args.log c.in-Ok.replayed.store c.in-Ok.replayed.complete replayed c.if-replay.true)
