-- What `write_log` writes.
use Rattle.std.specs.Prelude.{ℕ, ◌≡◌, ◌<◌, Bool, List, [], ◌∷◌, ◌++◌, map, Some}
use Rattle.std.specs.List.{All, flat_map, list_all}
use Rattle.std.specs.Map.{keys_of}
use Rattle.std.specs.Str.{is_utf8}
use Rattle.serde_json.specs.Data.{Data}
use Rattle.serde_json.specs.Written.{compact_text}
use Rattle.mk_name.specs.Names.{Name}
use Rattle.mk_jobs.specs.Jobs.{Jobs, name_of, node_count}
use Rattle.mk_foot.specs.Json.{path_named}
use Rattle.mk_sched.specs.Steps.{step_of}
use Rattle.mk_sched.specs.declared.event.Event.{Event}
use Rattle.mk_sched.specs.declared.event.Event.TheVariants.{Skip, Start, Look, Put, Erase, Finish}
use Rattle.mk_log.specs.Objects.{event_object, file_object}
use Rattle.mk_log.specs.Logs.{Log}

-- the objects of a log: its files in byte order of their names, and then its events
abbrev pub objects_of : Jobs → Log → List Data
objects_of jobs log = map (λ entry. file_object entry.0 entry.1) log.store ++ map (event_object jobs) log.events

-- the line of an object, in JSON without spaces
abbrev pub line_of : Data → List ℕ
line_of d = compact_text d ++ 10 ∷ []

-- the text of a log: the lines of its objects
abbrev pub log_text : Jobs → Log → List ℕ
log_text jobs log = flat_map line_of (objects_of jobs log)

-- the path that an event has
abbrev pub path_in : Event → List Name
path_in (Skip n) = []
path_in (Start n) = []
path_in (Look n path seen) = path ∷ []
path_in (Put n path bytes time) = path ∷ []
path_in (Erase n path) = path ∷ []
path_in (Finish n) = []

-- the names that an event has: its node's, and its path
abbrev pub names_in : Jobs → Event → List Name
names_in jobs event = name_of jobs (step_of event).node ∷ path_in event

-- the names in a log
abbrev pub names_of : Jobs → Log → List Name
names_of jobs log = keys_of log.store ++ flat_map (names_in jobs) log.events

-- each name in a log is UTF-8
abbrev pub is_text : Jobs → Log → Bool
is_text jobs log = list_all is_utf8 (names_of jobs log)

-- the events are of nodes
abbrev pub AreOfNodes : Jobs → List Event → Type 0
AreOfNodes jobs events = All (λ event. (step_of event).node < node_count jobs) events

-- below this root a name is a path that names itself
abbrev pub NamesItself : List ℕ → Name → Type 0
NamesItself root x = path_named root x ≡ Some x

-- below this root each name in a log is a path that names itself
abbrev pub ReadBack : Jobs → List ℕ → Log → Type 0
ReadBack jobs root log = All (NamesItself root) (names_of jobs log)
