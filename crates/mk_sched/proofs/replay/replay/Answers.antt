use Rattle.std.proofs.Common.{◌≡◌, ◌<◌, ◌+◌, [], ◌∷◌, ℕ, List, Some, refl, sym, ap, ◌∙◌, subst, arith, length, take, drop, inr}
use Rattle.std.proofs.lemmas.List.{length-take-le, take_all}
use Rattle.mk_jobs.specs.Jobs.{node_count}
use Rattle.mk_sched.specs.Events.{Event, running_below}
use Rattle.mk_sched.specs.Steps.{step_of, past_of}
use Rattle.mk_sched.specs.Stored.{store_of}
use Rattle.mk_sched.specs.declared.event.Event.{Event as LogEvent}
use Rattle.mk_sched.proofs.Replaying.{IsAt, past_more, begun_at, next, moves, room, finds_reported, not_allowed, leaves, whole, cut}
use Rattle.mk_sched.proofs.replay.replay.Goals as goal

pub loop-event-init : goal.loop-event-init
loop-event-init c = record {
  at = subst (λ (n : ℕ). IsAt c.args.jobs.now c.args.tie c.args.limit (store_of c.args.store) [] c.in_ok-state.state.store c.in_ok-state.state.stages.items n) (sym c.in_ok-state.ensures.none)
      (begun_at c.args.jobs.now c.args.tie c.args.limit (store_of c.args.store) c.in_ok-state.state.store c.in_ok-state.state.stages.items c.in_ok-state.ensures.state c.in_ok-state.ensures.long c.in_ok-state.ensures.few);
  placed = refl;
}

pub returns-in-Some-clause-err : goal.returns-in-Some-clause-err
returns-in-Some-clause-err c =
    let i = c.loop-event.event-index in
    let past = past_of (take i c.args.events.now) in
    let e = c.event-item.result in
    let at = c.loop-event.invariant.at in
    let inside : i < length c.args.events.now = c.loop-event-test.true in
    inr (record {
      agrees = c.agrees.ensures.0 c.if-not-agrees.false;
      before = take i c.args.events.now;
      event = e;
      rest = drop (i + 1) c.args.events.now;
      cut = cut c.args.events.now i e inside c.event-item.is;
      placed = ap (λ (n : ℕ). n + 1) (c.loop-event.invariant.placed ∙ sym (length-take-le i c.args.events.now (omega (arith, inside))));
      run = at.run;
      left = leaves c.args.jobs.now c.args.tie c.args.limit (store_of c.args.store) (take i c.args.events.now) _ _ _ at;
      not_allowed = not_allowed c.args.jobs.now c.args.tie c.args.limit (store_of c.args.store) past _ _ _ at (step_of e) c.in-Some.refusal c.in-Some.ensures;
      first = finds_reported c.args.jobs.now c.args.tie c.args.limit (store_of c.args.store) past _ _ _ at (step_of e) (Some c.in-Some.refusal) c.in-Some.ensures;
    })

pub apply-requires-clause-moves : goal.apply-requires-clause-moves
apply-requires-clause-moves c =
    let past = past_of (take c.loop-event.event-index c.args.events.now) in
    let at = c.loop-event.invariant.at in
    let e = step_of c.event-item.result in (
      running_below (e ∷ past) (node_count c.args.jobs.now),
      moves c.args.jobs.now c.args.tie c.args.limit (store_of c.args.store) past _ _ _ at e c.in_default.ensures,
      room c.args.jobs.now c.args.tie c.args.limit (store_of c.args.store) past _ _ _ at e c.in_default.ensures,
    )

pub loop-event-preserved : goal.loop-event-preserved
loop-event-preserved c =
    let i = c.loop-event.event-index in
    let past = past_of (take i c.args.events.now) in
    let e = c.event-item.result in
    let inside : i < length c.args.events.now = c.loop-event-test.true in
    record {
      at = subst (λ (p : List Event). IsAt c.args.jobs.now c.args.tie c.args.limit (store_of c.args.store) p c.apply.new.self.store c.apply.new.self.stages.items c.apply.new.self.running)
          (sym (past_more c.args.events.now i e inside c.event-item.is))
          (next c.args.jobs.now c.args.tie c.args.limit (store_of c.args.store) past _ _ _ c.loop-event.invariant.at (step_of e) c.in_default.ensures
          c.apply.new.self.store c.apply.new.self.stages.items c.apply.new.self.running c.in_ok-apply.ensures.state c.in_ok-apply.ensures.long c.in_ok-apply.ensures.moves);
      placed = ap (λ (n : ℕ). n + 1) c.loop-event.invariant.placed;
    }

pub returns-clause-ok : goal.returns-clause-ok
returns-clause-ok c =
    let all : take c.loop-event.event-index c.args.events.now ≡ c.args.events.now = take_all c.loop-event.event-index c.args.events.now c.loop-event-test.false in
    let at = subst (λ (events : List LogEvent). IsAt c.args.jobs.now c.args.tie c.args.limit (store_of c.args.store) (past_of events) c.loop-event.state.store c.loop-event.state.stages.items c.loop-event.state.running) all c.loop-event.invariant.at in
    record {
      agrees = c.agrees.ensures.0 c.if-not-agrees.false;
      run = at.run;
      left = leaves c.args.jobs.now c.args.tie c.args.limit (store_of c.args.store) c.args.events.now _ _ _ at;
      whole = whole c.args.jobs.now c.args.tie c.args.limit (store_of c.args.store) (past_of c.args.events.now) _ _ _ c.is_complete-complete.result at c.is_complete-complete.ensures;
    }
