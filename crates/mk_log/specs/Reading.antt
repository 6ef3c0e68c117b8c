-- What `read_log` answers: the log that all lines say, or the first line at fault.
use Rattle.std.specs.Prelude.{ℕ, ◌≡◌, ◌+◌, ◌&&◌, ◌↔◌, not, Bool, true, false, List, [], ◌∷◌, Option, None, Some, Result, Ok, Err, slice_get, take, unwrap_or, if◌then◌else◌}
use Rattle.std.specs.List.{enumerate_from, filter_map, flat_map, list_all, list_any}
use Rattle.std.specs.Option.{option_map_or}
use Rattle.mk_name.specs.Names.{Name, same_name}
use Rattle.mk_name.specs.Reported.{Reported}
use Rattle.mk_name.specs.declared.fault.Kind.TheVariants.{BadLog}
use Rattle.mk_name.specs.declared.fault.Source.TheVariants as sources
use Rattle.mk_text.specs.Listing.{lines}
use Rattle.mk_jobs.specs.Jobs.{Jobs}
use Rattle.mk_sched.specs.Stored.{IsInOrder, StoredFiles, store_of}
use Rattle.mk_sched.specs.declared.event.Event.{Event}
use Rattle.mk_log.specs.Entries.{entries_in}
use Rattle.mk_log.specs.declared.entry.Entry.{Entry}
use Rattle.mk_log.specs.declared.entry.Entry.TheVariants.{Holds, Happens}
use Rattle.mk_log.specs.Logs.{Log}

-- the entries of physical lines; a bad line has none
abbrev pub entries_of : Jobs → List ℕ → List (List ℕ) → List Entry
entries_of jobs root texts = flat_map (λ text. unwrap_or (entries_in jobs root text) []) texts

-- the files that an entry has, and the events
abbrev pub file_of : Entry → StoredFiles
file_of (Holds path bytes time) = (path, record { bytes = bytes; time = time }) ∷ []
file_of (Happens event) = []

abbrev pub event_of : Entry → List Event
event_of (Holds path bytes time) = []
event_of (Happens event) = event ∷ []

abbrev pub files_of : List Entry → StoredFiles
files_of entries = flat_map file_of entries

abbrev pub events_of : List Entry → List Event
events_of entries = flat_map event_of entries

-- an entry is an event, or the file at a name
abbrev pub is_event : Entry → Bool
is_event (Holds path bytes time) = false
is_event (Happens event) = true

abbrev pub is_at : Name → Entry → Bool
is_at x (Holds path bytes time) = same_name x path
is_at x (Happens event) = false

-- an entry may follow others: an event always, a file where they hold no event and no file of its name
abbrev pub may_follow : List Entry → Entry → Bool
may_follow before (Holds path bytes time) = not (list_any is_event before) && not (list_any (is_at path) before)
may_follow before (Happens event) = true

-- a physical line is good behind others: it is blank, or an entry that may follow theirs
abbrev pub is_good : Jobs → List ℕ → List (List ℕ) → List ℕ → Bool
is_good jobs root before text = option_map_or (list_all (may_follow (entries_of jobs root before))) (entries_in jobs root text) false

-- a bad line of a log
abbrev pub reported : ℕ → Reported
reported place = record { kind = BadLog; source = sources.Log; place = place; names = [] }

-- the fault of a physical line, with the number of those before it; places count from 1
abbrev pub fault_at : Jobs → List ℕ → List (List ℕ) → ℕ × List ℕ → Option Reported
fault_at jobs root texts placed = if is_good jobs root (take placed.0 texts) placed.1 then None else Some (reported (placed.0 + 1))

-- the first of these faults
abbrev pub first_fault : Jobs → List ℕ → List (List ℕ) → Option Reported
first_fault jobs root texts = slice_get (filter_map (fault_at jobs root texts) (enumerate_from 0 texts)) 0

-- a log holds what entries say: at each name the file that they say, and the events in their order
pub record IsLogOf (entries : List Entry) (log : Log) : Type 0 where
  pub files : (x : Name) → store_of log.store x ≡ store_of (files_of entries) x
  pub in_order : IsInOrder log.store
  pub events : log.events ≡ events_of entries

-- what `read_log` answers
abbrev pub IsLogRead : Jobs → List ℕ → List ℕ → Result Log Reported → Type 0
IsLogRead jobs root text (Ok log) = (first_fault jobs root (lines text) ≡ None) × IsLogOf (entries_of jobs root (lines text)) log
IsLogRead jobs root text (Err fault) = first_fault jobs root (lines text) ≡ Some fault

-- a text reads as a log: it may have that log for an answer, and no other answer
abbrev pub IsReadAs : Jobs → List ℕ → List ℕ → Log → Type 0
IsReadAs jobs root text log = (answer : Result Log Reported) → IsLogRead jobs root text answer ↔ (answer ≡ Ok log)
