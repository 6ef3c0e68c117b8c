-- Logs: what a store held, and what then happened.
use Rattle.std.specs.Prelude.{List}
use Rattle.mk_sched.specs.Stored.{StoredFiles}
use Rattle.mk_sched.specs.declared.event.Event.{Event}

-- the files that were there, and the events in the order in which they happened
pub record Log : Type 0 where
  pub store : StoredFiles
  pub events : List Event
