-- What each file and each event of a log is written as: an object of JSON, its keys in byte order.
use Rattle.std.specs.Prelude.{ℕ, List, Option, Some, None, codes}
use Rattle.hex.specs.Hex.{encode_lower}
use Rattle.serde_json.specs.Data.{Data, unsigned, null, number, string, object, no_members, member}
use Rattle.mk_name.specs.Names.{Name}
use Rattle.mk_jobs.specs.Jobs.{Jobs, name_of}
use Rattle.mk_sched.specs.Stores.{Bytes, File}
use Rattle.mk_sched.specs.declared.event.Event.{Event}
use Rattle.mk_sched.specs.declared.event.Event.TheVariants.{Skip, Start, Look, Put, Erase, Finish}

-- bytes in lower case hexadecimal
abbrev pub hexadecimal : Bytes → Data
hexadecimal bytes = string (encode_lower bytes)

-- what a look saw; `null` where the file is absent
abbrev pub seen_data : Option Bytes → Data
seen_data None = null
seen_data (Some bytes) = hexadecimal bytes

-- a file of the opening store
abbrev pub file_object : Name → File → Data
file_object path file = object
    (member (codes "bytes") (hexadecimal file.bytes)
    (member (codes "do") (string (codes "file"))
    (member (codes "path") (string path)
    (member (codes "time") (number (unsigned file.time)) no_members))))

-- an event that names its node alone
abbrev pub node_object : List ℕ → Name → Data
node_object word node = object (member (codes "do") (string word) (member (codes "node") (string node) no_members))

-- a look, a put and an erasure
abbrev pub look_object : Name → Name → Option Bytes → Data
look_object node path seen = object
    (member (codes "bytes") (seen_data seen)
    (member (codes "do") (string (codes "look"))
    (member (codes "node") (string node)
    (member (codes "path") (string path) no_members))))

abbrev pub put_object : Name → Name → Bytes → ℕ → Data
put_object node path bytes time = object
    (member (codes "bytes") (hexadecimal bytes)
    (member (codes "do") (string (codes "put"))
    (member (codes "node") (string node)
    (member (codes "path") (string path)
    (member (codes "time") (number (unsigned time)) no_members)))))

abbrev pub erase_object : Name → Name → Data
erase_object node path = object
    (member (codes "do") (string (codes "erase"))
    (member (codes "node") (string node)
    (member (codes "path") (string path) no_members)))

-- an event
abbrev pub event_object : Jobs → Event → Data
event_object jobs (Skip n) = node_object (codes "skip") (name_of jobs n)
event_object jobs (Start n) = node_object (codes "start") (name_of jobs n)
event_object jobs (Look n path seen) = look_object (name_of jobs n) path seen
event_object jobs (Put n path bytes time) = put_object (name_of jobs n) path bytes time
event_object jobs (Erase n path) = erase_object (name_of jobs n) path
event_object jobs (Finish n) = node_object (codes "finish") (name_of jobs n)
