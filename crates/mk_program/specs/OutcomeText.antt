-- The text of a replay: that the log is a run, with the files that it leaves, or why it is none.
use Rattle.std.specs.Prelude.{ℕ, ◌≡◌, Bool, List, [], ◌∷◌, ◌++◌, codes, if◌then◌else◌}
use Rattle.std.specs.Fmt.{decimal}
use Rattle.std.specs.List.{flat_map}
use Rattle.hex.specs.Hex.{encode_lower}
use Rattle.mk_name.specs.Names.{Name}
use Rattle.mk_name.specs.Shown.{line, shown}
use Rattle.mk_sched.specs.Shown.{number_of, word_of}
use Rattle.mk_sched.specs.Stored.{IsInOrder, StoredFiles}
use Rattle.mk_sched.specs.Stores.{Bytes, File}
use Rattle.mk_sched.specs.declared.refusal.Refusal.{Refusal}
use Rattle.mk_sched.specs.declared.replay.Replayed.{Replayed}
use Rattle.mk_race.specs.declared.replaying.Played.{Played}
use Rattle.mk_race.specs.declared.replaying.Played.TheVariants.{Allowed, NotAllowed}

-- bytes in lower case hexadecimal; a hyphen where there are none
abbrev pub hexadecimal : Bytes → List ℕ
hexadecimal [] = codes "-"
hexadecimal (first ∷ rest) = encode_lower (first ∷ rest)

-- the line of a file: its name, when it was written and its bytes
abbrev pub file_line : Name × File → List ℕ
file_line named =
    line (codes "file " ++ shown named.0 ++ codes " " ++ decimal named.1.time ++ codes " " ++ hexadecimal named.1.bytes)

-- the lines of files, in their order
abbrev pub file_lines : StoredFiles → List ℕ
file_lines files = flat_map file_line files

-- whether every node has passed
abbrev pub complete_word : Bool → List ℕ
complete_word complete = if complete then codes "complete" else codes "incomplete"

-- the text of a run: whether it is complete, and the files that it leaves
abbrev pub allowed_text : Replayed → List ℕ
allowed_text replayed = line (codes "allowed " ++ complete_word replayed.complete) ++ file_lines replayed.store

-- the text of a refusal: its number, its word and its place
abbrev pub not_allowed_text : ℕ → Refusal → List ℕ
not_allowed_text place refusal =
    line (codes "not allowed V" ++ decimal (number_of refusal) ++ codes " " ++ word_of refusal ++ codes " at " ++ decimal place)

-- the text of a replay; the files of a run stand in the byte order of their names
abbrev pub IsOutcomeText : Played → List ℕ → Type 0
IsOutcomeText (Allowed replayed) text = (text ≡ allowed_text replayed) × IsInOrder replayed.store
IsOutcomeText (NotAllowed place refusal) text = text ≡ not_allowed_text place refusal
