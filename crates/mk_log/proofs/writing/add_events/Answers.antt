use Rattle.std.proofs.Common.{List, ◌∷◌, [], map, take, ap, sym, subst, ◌∙◌}
use Rattle.std.proofs.lemmas.List.{map-append}
use Rattle.std.proofs.lemmas.Result.{err_from_is_err_and}
use Rattle.mk_sched.specs.declared.event.Event.{Event}
use Rattle.mk_log.specs.Spelled.{Adds}
use Rattle.mk_log.specs.Writing.{names_in}
use Rattle.mk_log.specs.declared.entry.Entry.{Entry}
use Rattle.mk_log.specs.declared.entry.Entry.TheVariants.{Happens}
use Rattle.mk_log.proofs.Lines.{more_added, not_all_at, taken_more}
use Rattle.mk_log.proofs.writing.add_events.Goals as goal

pub returns-in_err-add_event-clause-not_text : goal.returns-in_err-add_event-clause-not_text
returns-in_err-add_event-clause-not_text c =
    let p = err_from_is_err_and c.from_residual.result c.from_residual.ensures.1 in
    rw (p.1, p.2) (λ is. not_all_at (names_in c.args.jobs.now) c.args.events.now c.loop-event.event-index c.event-item.result
    c.loop-event-test.true c.event-item.is (c.in_err-add_event.ensures.not_text is))

pub loop-event-preserved : goal.loop-event-preserved
loop-event-preserved c =
    let happens : Event → Entry = λ event. Happens event in
    let done = take c.loop-event.event-index c.args.events.now in
    let all = more_added c.args.jobs.now (map happens done) (happens c.event-item.result ∷ []) _ _ _ c.loop-event.invariant c.in_ok-add_event.ensures.adds in
    subst (λ (entries : List Entry). Adds c.args.jobs.now entries c.args.text.now.items c.add_event.new.text.items)
    (sym (ap (map happens) (taken_more c.args.events.now c.loop-event.event-index c.event-item.result c.loop-event-test.true c.event-item.is)
    ∙ map-append happens done (c.event-item.result ∷ []))) all
