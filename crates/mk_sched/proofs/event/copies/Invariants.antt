use Rattle.std.proofs.Common.{◌≡◌, take}
use Rattle.mk_sched.proofs.event.copies.Given as goal

-- the events so far are copied
abbrev pub invariant-loop-event : goal.invariant-loop-event
invariant-loop-event l = l.copies.items ≡ take l.event-index l.events
