-- For private clauses: the entries of a log that is written, one line each.
use Rattle.std.specs.Prelude.{ℕ, ◌≡◌, ◌<◌, ◌^◌, ◌==◌, true, false, List, [], ◌∷◌, ◌++◌, map, Option, Some, None}
use Rattle.std.specs.List.{All, flat_map, list_all}
use Rattle.std.specs.Str.{is_utf8}
use Rattle.hex.specs.Hex.{IsBytes}
use Rattle.serde_json.specs.Data.{Data}
use Rattle.serde_json.specs.Written.{compact_text}
use Rattle.mk_name.specs.Names.{Name}
use Rattle.mk_jobs.specs.Jobs.{Jobs}
use Rattle.mk_sched.specs.Stores.{Bytes, File}
use Rattle.mk_sched.specs.declared.event.Event.{Event}
use Rattle.mk_sched.specs.declared.event.Event.TheVariants.{Skip, Start, Look, Put, Erase, Finish}
use Rattle.mk_log.specs.Entries.{entries_in}
use Rattle.mk_log.specs.Objects.{event_object, file_object}
use Rattle.mk_log.specs.Writing.{NamesItself, line_of, names_in}
use Rattle.mk_log.specs.declared.entry.Entry.{Entry}
use Rattle.mk_log.specs.declared.entry.Entry.TheVariants.{Holds, Happens}
use Rattle.mk_log.specs.Logs.{Log}

-- the entry of a file
abbrev pub file_entry : Name × File → Entry
file_entry placed = Holds placed.0 placed.1.bytes placed.1.time

-- the entries of a log: its files, and then its events
abbrev pub entries_reported : Log → List Entry
entries_reported log = map file_entry log.store ++ map (λ event. Happens event) log.events

-- the object of an entry
abbrev pub object_of : Jobs → Entry → Data
object_of jobs (Holds path bytes time) = file_object path (record { bytes = bytes; time = time })
object_of jobs (Happens event) = event_object jobs event

-- the names that an entry has
abbrev pub names_reported : Jobs → Entry → List Name
names_reported jobs (Holds path bytes time) = path ∷ []
names_reported jobs (Happens event) = names_in jobs event

-- no byte is a newline
abbrev pub IsOneLine : List ℕ → Type 0
IsOneLine text = All (λ b. (b == 10) ≡ false) text

-- an entry's object stands on one line, and says the entry below a root where the entry's names are paths that name themselves
pub record IsSpelled (jobs : Jobs) (entry : Entry) : Type 0 where
  pub one_line : IsOneLine (compact_text (object_of jobs entry))
  pub back : (root : List ℕ) → All (NamesItself root) (names_reported jobs entry)
      → entries_in jobs root (compact_text (object_of jobs entry)) ≡ Some (entry ∷ [])

-- the second text is the first and the lines of these entries, whose names are UTF-8
pub record Adds (jobs : Jobs) (entries : List Entry) (old new : List ℕ) : Type 0 where
  pub lines : new ≡ old ++ flat_map line_of (map (object_of jobs) entries)
  pub is_text : list_all is_utf8 (flat_map (names_reported jobs) entries) ≡ true
  pub spelled : All (IsSpelled jobs) entries

-- what a look may have seen is bytes
abbrev pub IsSeen : Option Bytes → Type 0
IsSeen None = Unit {0}
IsSeen (Some bytes) = IsBytes bytes

-- an event's bytes are bytes, and its time has 64 bits
abbrev pub IsSized : Event → Type 0
IsSized (Skip n) = Unit {0}
IsSized (Start n) = Unit {0}
IsSized (Look n path seen) = IsSeen seen
IsSized (Put n path bytes time) = IsBytes bytes × (time < 2 ^ 64)
IsSized (Erase n path) = Unit {0}
IsSized (Finish n) = Unit {0}
