-- How a failure is reported.
use Rattle.std.specs.Prelude.{ℕ, List, ◌++◌, Option, codes, string_bytes}
use Rattle.std.specs.Io.KnownBytes.{Appends}
use Rattle.mk_name.specs.Shown.{line}
use Rattle.mk_read.specs.declared.builds.BuildStop.{BuildStop}
use Rattle.mk_read.specs.declared.builds.BuildStop.TheVariants as builds
use Rattle.mk_read.specs.declared.builds.BuildText.{BuildText}
use Rattle.mk_read.specs.declared.builds.BuildText.TheVariants as texts
use Rattle.mk_files.specs.declared.failures.Failure.{Failure}
use Rattle.mk_files.specs.declared.failures.Failure.TheVariants as failures
use Rattle.mk_request.specs.declared.inputs.InputFile.{InputFile}
use Rattle.mk_request.specs.declared.inputs.InputFile.TheVariants as inputs

-- the input that is a text of a build
abbrev pub input_of : BuildText → InputFile
input_of texts.Base = inputs.Base
input_of texts.Makefile = inputs.Makefile
input_of texts.Listing = inputs.Listing
input_of texts.Footprints = inputs.Footprints

-- why a build was not read
abbrev pub unread : BuildStop → Failure
unread (builds.Broken text) = failures.Read (input_of text)
unread builds.Memory = failures.Memory

-- how an input is reported
abbrev pub word_of : InputFile → List ℕ
word_of inputs.Include = codes "include"
word_of inputs.Base = codes "base"
word_of inputs.Makefile = codes "makefile"
word_of inputs.Listing = codes "listing"
word_of inputs.Footprints = codes "footprints"
word_of inputs.Proof = codes "proof"
word_of inputs.Log = codes "log"
word_of inputs.Tasks = codes "tasks"

-- that an input cannot be opened, or cannot be read
abbrev pub unread_text : InputFile → List ℕ
unread_text input = codes "race: read failed: " ++ word_of input

-- the text of a failure
abbrev pub failure_text : Failure → List ℕ
failure_text (failures.Read input) = unread_text input
failure_text failures.Write = codes "race: write failed"
failure_text failures.Memory = codes "race: out of memory"
failure_text failures.NotText = codes "race: not text"
failure_text (failures.Usage text) = string_bytes text

-- the line of the failure was written behind what stood there
abbrev pub IsFailureReported : Failure → Option (List ℕ) → Option (List ℕ) → Type 0
IsFailureReported failure old new = Appends old new (line (failure_text failure))
