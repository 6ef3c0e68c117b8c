use Rattle.std.proofs.Common.{◌≡◌, take}
use Rattle.mk_sched.specs.Steps.{past_of}
use Rattle.mk_sched.specs.Stored.{store_of}
use Rattle.mk_sched.proofs.Replaying.{IsAt}
use Rattle.mk_sched.proofs.replay.replay.Given as goal

abbrev pub invariant-loop-event : goal.invariant-loop-event
invariant-loop-event l = record {
  at : IsAt l.jobs l.tie l.limit (store_of l.fn.store) (past_of (take l.event-index l.events)) l.state.store l.state.stages.items l.state.running;
  placed : l.place ≡ l.event-index;
}
