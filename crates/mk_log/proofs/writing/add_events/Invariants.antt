use Rattle.std.proofs.Common.{map, take}
use Rattle.mk_log.specs.Spelled.{Adds}
use Rattle.mk_log.specs.declared.entry.Entry.TheVariants.{Happens}
use Rattle.mk_log.proofs.writing.add_events.Given as goal

-- the events so far have their lines
abbrev pub invariant-loop-event : goal.invariant-loop-event
invariant-loop-event l = Adds l.jobs (map (λ event. Happens event) (take l.event-index l.events)) l.initial.text.items l.text.items
