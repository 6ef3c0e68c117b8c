-- The object of an entry says the entry.
use Rattle.std.proofs.Common.{◌≡◌, ℕ, ◌<◌, ◌^◌, List, [], ◌∷◌, Option, None, Some, option_map, option_and_then, refl, ap, ◌∙◌}
use Rattle.std.proofs.lemmas.List.Elements.{All-head, All-tail}
use Rattle.std.specs.List.{All}
use Rattle.std.specs.Result.{result_ok}
use Rattle.hex.specs.Hex.{IsBytes, encode_lower}
use Rattle.hex.proofs.HexLemmas.{decode_of-encode_lower}
use Rattle.serde_json.specs.Data.{Data, object, Members}
use Rattle.serde_json.specs.Written.{compact_text}
use Rattle.mk_name.specs.Names.{Name}
use Rattle.mk_jobs.specs.Numbered.{number_of}
use Rattle.mk_jobs.specs.Plan.{names_of}
use Rattle.mk_jobs.specs.Jobs.{Jobs, name_of}
use Rattle.mk_foot.specs.Json.{path_named, value_of}
use Rattle.mk_sched.specs.Steps.{step_of}
use Rattle.mk_sched.specs.Stores.{Bytes}
use Rattle.mk_sched.specs.declared.event.Event.{Event}
use Rattle.mk_sched.specs.declared.event.Event.TheVariants.{Skip, Start, Look, Put, Erase, Finish}
use Rattle.mk_log.specs.Entries.{bytes_in, entry_in, entries_in}
use Rattle.mk_log.specs.Objects.{event_object, file_object}
use Rattle.mk_log.specs.Spelled.{IsSeen, IsSized, IsSpelled}
use Rattle.mk_log.specs.Writing.{NamesItself, path_in}
use Rattle.mk_log.specs.declared.entry.Entry.{Entry}
use Rattle.mk_log.specs.declared.entry.Entry.TheVariants.{Holds, Happens}
use Rattle.mk_log.proofs.OneLine.{IsFlat, flat_inside, no_capital}

-- ---- what the objects say

bytes_back : (bytes : Bytes) → IsBytes bytes → bytes_in (encode_lower bytes) ≡ Some bytes
bytes_back bytes small = rw (no_capital bytes small) (ap result_ok (decode_of-encode_lower bytes small))

file_said : (jobs : Jobs) (root : List ℕ) (path : Name) (bytes : Bytes) (time : ℕ) → path_named root path ≡ Some path → IsBytes bytes
    → entry_in jobs root (file_object path (record { bytes = bytes; time = time })) ≡ Some (Holds path bytes time)
file_said jobs root path bytes time named small = rw (named, bytes_back bytes small) refl

-- the name of a node is a path that names itself, and the node's number is found by it
record Found (jobs : Jobs) (root : List ℕ) (n : ℕ) : Type 0 where
  named : path_named root (name_of jobs n) ≡ Some (name_of jobs n)
  number : number_of (names_of jobs.plan.nodes) (name_of jobs n) ≡ Some n

look_said : (jobs : Jobs) (root : List ℕ) (n : ℕ) (path : Name) (seen : Option Bytes) → Found jobs root n → path_named root path ≡ Some path → IsSeen seen
    → entry_in jobs root (event_object jobs (Look n path seen)) ≡ Some (Happens (Look n path seen))
look_said jobs root n path None found named small = rw (found.named, found.number, named) refl
look_said jobs root n path (Some bytes) found named small = rw (found.named, found.number, named, bytes_back bytes small) refl

event_said : (jobs : Jobs) (root : List ℕ) (event : Event) → Found jobs root (step_of event).node → All (NamesItself root) (path_in event) → IsSized event
    → entry_in jobs root (event_object jobs event) ≡ Some (Happens event)
event_said jobs root (Skip n) found named sized = rw (found.named, found.number) refl
event_said jobs root (Start n) found named sized = rw (found.named, found.number) refl
event_said jobs root (Finish n) found named sized = rw (found.named, found.number) refl
event_said jobs root (Erase n path) found named sized =
    let own : path_named root path ≡ Some path = All-head (NamesItself root) path [] named in
    rw (found.named, found.number, own) refl
event_said jobs root (Look n path seen) found named sized = look_said jobs root n path seen found (All-head (NamesItself root) path [] named) sized
event_said jobs root (Put n path bytes time) found named sized =
    let own : path_named root path ≡ Some path = All-head (NamesItself root) path [] named in
    rw (found.named, found.number, own, bytes_back bytes sized.0) refl

-- ---- each object stands on one line

look_flat : (jobs : Jobs) (n : ℕ) (path : Name) (seen : Option Bytes) → IsFlat (event_object jobs (Look n path seen))
look_flat jobs n path None = (tt, (tt, (tt, (tt, tt))))
look_flat jobs n path (Some bytes) = (tt, (tt, (tt, (tt, tt))))

event_flat : (jobs : Jobs) (event : Event) → IsSized event → IsFlat (event_object jobs event)
event_flat jobs (Skip n) sized = (tt, (tt, tt))
event_flat jobs (Start n) sized = (tt, (tt, tt))
event_flat jobs (Finish n) sized = (tt, (tt, tt))
event_flat jobs (Erase n path) sized = (tt, (tt, (tt, tt)))
event_flat jobs (Look n path seen) sized = look_flat jobs n path seen
event_flat jobs (Put n path bytes time) sized = (tt, (tt, (tt, (tt, (sized.1, tt)))))

file_flat : (path : Name) (bytes : Bytes) (time : ℕ) → time < 2 ^ 64 → IsFlat (file_object path (record { bytes = bytes; time = time }))
file_flat path bytes time fits = (tt, (tt, (tt, (fits, tt))))

-- ---- entries

-- the line of an object that says an entry
said : (jobs : Jobs) (root : List ℕ) (ms : Members) (entry : Entry) → value_of (compact_text (object ms)) ≡ Some (object ms)
    → entry_in jobs root (object ms) ≡ Some entry → entries_in jobs root (compact_text (object ms)) ≡ Some (entry ∷ [])
said jobs root ms entry value says =
    ap (λ (o : Option Data). option_map (λ e. e ∷ []) (option_and_then (entry_in jobs root) o)) value
    ∙ ap (λ (o : Option Entry). option_map (λ e. e ∷ []) o) says

-- a file is spelled
pub file_spelled : (jobs : Jobs) (path : Name) (bytes : Bytes) (time : ℕ) → IsBytes bytes → time < 2 ^ 64
    → value_of (compact_text (file_object path (record { bytes = bytes; time = time }))) ≡ Some (file_object path (record { bytes = bytes; time = time }))
    → IsSpelled jobs (Holds path bytes time)
file_spelled jobs path bytes time small fits value = record {
  one_line = flat_inside (file_object path (record { bytes = bytes; time = time })) (file_flat path bytes time fits);
  back = λ root named. said jobs root _ (Holds path bytes time) value (file_said jobs root path bytes time (All-head (NamesItself root) path [] named) small);
}

-- an event is an object
event_members : (jobs : Jobs) (event : Event) → (ms : Members) × (event_object jobs event ≡ object ms)
event_members jobs (Skip n) = (_, refl)
event_members jobs (Start n) = (_, refl)
event_members jobs (Look n path seen) = (_, refl)
event_members jobs (Put n path bytes time) = (_, refl)
event_members jobs (Erase n path) = (_, refl)
event_members jobs (Finish n) = (_, refl)

-- an event of a node is spelled
pub event_spelled : (jobs : Jobs) (event : Event) → IsSized event
    → number_of (names_of jobs.plan.nodes) (name_of jobs (step_of event).node) ≡ Some (step_of event).node
    → value_of (compact_text (event_object jobs event)) ≡ Some (event_object jobs event)
    → IsSpelled jobs (Happens event)
event_spelled jobs event sized at value = record {
  one_line = flat_inside (event_object jobs event) (event_flat jobs event sized);
  back = λ root named.
      let own = All-head (NamesItself root) (name_of jobs (step_of event).node) (path_in event) named in
      let paths = All-tail (NamesItself root) (name_of jobs (step_of event).node) (path_in event) named in
      let found : Found jobs root (step_of event).node = record { named = own; number = at } in
      let says = event_said jobs root event found paths sized in
      let members = event_members jobs event in
      rw members.1 (said jobs root members.0 (Happens event) (rw members.1 at value) (rw members.1 at says));
}
