-- What the program says of a build whose footprints may lie unused: an answer, and a note of them.
use Rattle.std.specs.Prelude.{◌≡◌, ◌==◌, ℕ, Bool, List, [], ◌++◌, Result, Ok, Err, Option, None, Some, codes, if◌then◌else◌}
use Rattle.std.specs.Fmt.{decimal}
use Rattle.mk_name.specs.Reported.{Reported}
use Rattle.mk_name.specs.Shown.{line, refused_text, shown}
use Rattle.mk_race.specs.Stages.{Texts}
use Rattle.mk_race.specs.Unused.{IsNotedBy}
use Rattle.mk_race.specs.declared.unused.Noted.{Noted}
use Rattle.mk_race.specs.declared.unused.Unused.{Unused}
use Rattle.mk_program.specs.declared.statuses.Status.{Status}
use Rattle.mk_program.specs.declared.statuses.Status.TheVariants as statuses

-- how many targets there are
abbrev pub count_text : ℕ → List ℕ
count_text count = codes "(" ++ decimal count ++ (if count == 1 then codes " such target" else codes " such targets") ++ codes ")"

-- the line of the note: the first target that nothing makes, and how many there are
abbrev pub note_line : Unused → List ℕ
note_line unused =
    line (codes "race: note: nothing makes " ++ shown unused.name ++ codes " here, though its footprint says what its recipe does "
    ++ count_text unused.count ++ codes "; see --base")

-- the note of a build: nothing, where no footprints lie unused
abbrev pub note_of : Option Unused → List ℕ
note_of None = []
note_of (Some unused) = note_line unused

-- a build is noted and answered; or refused with its fault, and then not noted
abbrev pub SaysOf : (Status → List ℕ → Type 0) → Result Noted Reported → Status → List ℕ → List ℕ → Type 0
SaysOf Says (Ok noted) status text note = Says status text × (note ≡ note_of noted.unused)
SaysOf Says (Err reported) status text note = (status ≡ statuses.Refused) × (text ≡ refused_text reported) × (note ≡ [])

-- what is said of the build of these texts: where it is strict, it has the fault of footprints that lie unused
abbrev pub SaysNoting : Bool → Texts → List ℕ → (Status → List ℕ → Type 0) → Status → List ℕ → List ℕ → Type 0
SaysNoting strict texts footprints Says status text note =
    (given : Result Noted Reported) × IsNotedBy strict texts footprints given × SaysOf Says given status text note
