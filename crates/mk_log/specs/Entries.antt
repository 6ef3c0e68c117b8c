-- One line of a log: a file of the opening store, or an event, as an object of JSON.
use Rattle.std.specs.Prelude.{ℕ, Bool, List, [], ◌∷◌, Option, None, Some, codes, option_and_then, option_map, nat_le, ◌&&◌, if◌then◌else◌}
use Rattle.std.specs.List.{list_any}
use Rattle.std.specs.Result.{result_ok}
use Rattle.hex.specs.Hex.{decode_of}
use Rattle.serde_json.specs.Data.{Data, null, boolean, number, string, array, object}
use Rattle.serde_json.specs.Find.{get, as_number, as_str, as_u64}
use Rattle.mk_name.specs.Names.{Name, same_name}
use Rattle.mk_jobs.specs.Numbered.{number_of}
use Rattle.mk_jobs.specs.Plan.{names_of}
use Rattle.mk_jobs.specs.Jobs.{Jobs}
use Rattle.mk_foot.specs.Json.{is_blank, path_under, value_of}
use Rattle.mk_sched.specs.Stores.{Bytes}
use Rattle.mk_sched.specs.declared.event.Event.{Event}
use Rattle.mk_sched.specs.declared.event.Event.TheVariants.{Skip, Start, Look, Put, Erase, Finish}
use Rattle.mk_log.specs.declared.entry.Entry.{Entry}
use Rattle.mk_log.specs.declared.entry.Entry.TheVariants.{Holds, Happens}

-- a capital letter
abbrev pub is_capital : ℕ → Bool
is_capital b = nat_le 65 b && nat_le b 90

-- the bytes that a text spells in hexadecimal, two digits each, none of them a capital letter
abbrev pub bytes_in : List ℕ → Option Bytes
bytes_in text = if list_any is_capital text then None else result_ok (decode_of text)

-- the bytes under the key `bytes`
abbrev pub bytes_under : Data → Option Bytes
bytes_under d = option_and_then bytes_in (option_and_then as_str (get (codes "bytes") d))

-- what a look saw: bytes, or that the file is absent
abbrev pub seen_in : Data → Option (Option Bytes)
seen_in null = Some None
seen_in (boolean b) = None
seen_in (number n) = None
seen_in (string text) = option_map (λ bytes. Some bytes) (bytes_in text)
seen_in (array values) = None
seen_in (object fields) = None

abbrev pub seen_under : Data → Option (Option Bytes)
seen_under d = option_and_then seen_in (get (codes "bytes") d)

-- the time under the key `time`: a whole number from 0 to the greatest of 64 bits
abbrev pub time_under : Data → Option ℕ
time_under d = option_and_then as_u64 (option_and_then as_number (get (codes "time") d))

-- the number of the node whose name stands under the key `node`
abbrev pub node_under : Jobs → List ℕ → Data → Option ℕ
node_under jobs root d = option_and_then (number_of (names_of jobs.plan.nodes)) (path_under root (codes "node") d)

-- a file of the opening store
abbrev pub file_in : List ℕ → Data → Option Entry
file_in root d =
    option_and_then (λ path. option_and_then (λ bytes. option_map (λ time. Holds path bytes time)
    (time_under d)) (bytes_under d)) (path_under root (codes "path") d)

-- the look of a node at a path
abbrev pub look_in : ℕ → Name → Data → Option Event
look_in node path d = option_map (λ seen. Look node path seen) (seen_under d)

-- the put of a node at a path
abbrev pub put_in : ℕ → Name → Data → Option Event
put_in node path d = option_and_then (λ bytes. option_map (λ time. Put node path bytes time) (time_under d)) (bytes_under d)

-- what a node does to a path, by the word for it
abbrev pub touch_by : List ℕ → ℕ → Name → Data → Option Event
touch_by word node path d =
    if same_name word (codes "look") then look_in node path d
    else if same_name word (codes "put") then put_in node path d
    else if same_name word (codes "erase") then Some (Erase node path)
    else None

-- what a node does, by the word for it
abbrev pub event_by : List ℕ → List ℕ → ℕ → Data → Option Event
event_by word root node d =
    if same_name word (codes "skip") then Some (Skip node)
    else if same_name word (codes "start") then Some (Start node)
    else if same_name word (codes "finish") then Some (Finish node)
    else option_and_then (λ path. touch_by word node path d) (path_under root (codes "path") d)

-- the event that an object says, by the word for it
abbrev pub event_in : List ℕ → Jobs → List ℕ → Data → Option Event
event_in word jobs root d = option_and_then (λ node. event_by word root node d) (node_under jobs root d)

-- what an object says, by the word under its key `do`; keys that the word does not ask for mean nothing
abbrev pub entry_by : List ℕ → Jobs → List ℕ → Data → Option Entry
entry_by word jobs root d =
    if same_name word (codes "file") then file_in root d
    else option_map (λ event. Happens event) (event_in word jobs root d)

abbrev pub entry_in : Jobs → List ℕ → Data → Option Entry
entry_in jobs root d = option_and_then (λ word. entry_by word jobs root d) (option_and_then as_str (get (codes "do") d))

-- the entries of a physical line: none where it is blank, one where it is such an object; any other is bad
abbrev pub entries_in : Jobs → List ℕ → List ℕ → Option (List Entry)
entries_in jobs root text =
    if is_blank text then Some [] else option_map (λ entry. entry ∷ []) (option_and_then (entry_in jobs root) (value_of text))
