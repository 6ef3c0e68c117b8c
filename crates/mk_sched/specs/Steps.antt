-- The events of the code as the laws see them.
use Rattle.std.specs.Prelude.{ℕ, List, map, reverse}
use Rattle.mk_sched.specs.Events.{Event}
use Rattle.mk_sched.specs.Events.Act.{Skip as skip, Start as start, Look as look, Put as put, Erase as erase, Finish as finish}
use Rattle.mk_sched.specs.Serial.{timed}
use Rattle.mk_sched.specs.declared.event.Event.{Event as LogEvent}
use Rattle.mk_sched.specs.declared.event.Event.TheVariants.{Skip, Start, Look, Put, Erase, Finish}

-- an event of the code: its node, and the act
abbrev pub step_of : LogEvent → Event
step_of (Skip n) = record { node = n; act = skip }
step_of (Start n) = record { node = n; act = start }
step_of (Look n path seen) = record { node = n; act = look path seen }
step_of (Put n path contents time) = record { node = n; act = put path contents time }
step_of (Erase n path) = record { node = n; act = erase path }
step_of (Finish n) = record { node = n; act = finish }

-- the step, a put at this time
abbrev pub steps_at : ℕ → Event → Event
steps_at time e = record { node = e.node; act = timed time e.act }

-- events in the order of time as a past, the newest first
abbrev pub past_of : List LogEvent → List Event
past_of events = reverse (map step_of events)
