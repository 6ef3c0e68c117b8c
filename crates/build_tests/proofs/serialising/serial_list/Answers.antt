use Rattle.std.proofs.Common.{◌≡◌, List, ap, false, subst, ◌∙◌}
use Rattle.mk_log.specs.Logs.{Log}
use Rattle.mk_sched.specs.Runs.{IsComplete, IsRun}
use Rattle.mk_sched.specs.Steps.{past_of}
use Rattle.mk_sched.specs.Stored.{StoredFiles, store_of}
use Rattle.mk_sched.specs.declared.event.Event.{Event}
use Rattle.build_tests.proofs.serialising.serial_list.Goals as goal

pub in_serial_order-requires-clause-whole : goal.in_serial_order-requires-clause-whole
in_serial_order-requires-clause-whole c =
    let jobs = c.args.jobs.now in
    let log = c.args.log.now in
    let replayed = c.in-Ok-replay.ensures.ok in
    let events : c.as_slice.result.now ≡ log.events = c.as_slice.ensures.value ∙ ap (λ (l : Log). l.events) c.log.view_is in
    let store : c.in-Ok.store ≡ log.store = c.in-Ok.ensures ∙ ap (λ (l : Log). l.store) c.log.view_is in
    record {
      limit = 2;
      run = subst (λ (es : List Event). IsRun jobs false 2 (store_of log.store) (past_of es)) events
          (subst (λ (s : StoredFiles). IsRun jobs false 2 (store_of s) (past_of c.as_slice.result.now)) store replayed.run);
      complete = subst (λ (es : List Event). IsComplete jobs (past_of es)) events (replayed.whole.0 c.if-replay.true);
    }
