-- What is said beside an answer, on standard error: why the input is refused, in words, and the note.
use Rattle.std.specs.Prelude.{ℕ, ◌≡◌, ◌==◌, List, [], ◌∷◌, ◌++◌, Option, Some, None, codes, option_map, if◌then◌else◌}
use Rattle.std.specs.Fmt.{decimal}
use Rattle.std.specs.List.{flat_map}
use Rattle.mk_name.specs.Names.{Name}
use Rattle.mk_name.specs.Reported.{Reported}
use Rattle.mk_name.specs.Shown.{number_of, refused_text, shown}
use Rattle.mk_name.specs.declared.fault.Kind.{Kind}
use Rattle.mk_name.specs.declared.fault.Kind.TheVariants as kinds
use Rattle.mk_name.specs.declared.fault.Source.{Source}
use Rattle.mk_name.specs.declared.fault.Source.TheVariants as sources
use Rattle.mk_request.specs.Requests.{is_quiet, other_input}
use Rattle.mk_request.specs.declared.requests.BuildArgs.{BuildArgs}
use Rattle.mk_request.specs.declared.requests.JobArgs.{JobArgs}
use Rattle.mk_request.specs.declared.requests.Request.{Request}
use Rattle.mk_request.specs.declared.requests.Request.TheVariants as requests
use Rattle.mk_request.specs.declared.requests.TaskArgs.{TaskArgs}
use Rattle.mk_request.specs.declared.requests.TaskQuestion.{TaskQuestion}
use Rattle.mk_request.specs.declared.requests.TaskQuestion.TheVariants as questions
use Rattle.mk_program.specs.declared.statuses.Status.{Status}
use Rattle.mk_program.specs.declared.statuses.Status.TheVariants as statuses

-- what is wrong, in words; they are the headings of docs/FAULTS.md
abbrev pub words_of : Kind → List ℕ
words_of kinds.BadName = codes "not a valid path"
words_of kinds.NoColon = codes "no colon in this line"
words_of kinds.StrayRecipe = codes "a command without an entry above it"
words_of kinds.DoubleColon = codes "an entry with two colons"
words_of kinds.BadAssignment = codes "not a valid assignment"
words_of kinds.TextTooLarge = codes "more than 1,048,576 bytes"
words_of kinds.MacroLoop = codes "a macro whose value needs itself"
words_of kinds.BadReference = codes "a reference that cannot be read"
words_of kinds.InternalMacro = codes "a macro that has a value only in commands"
words_of kinds.ExpansionTooLarge = codes "an expansion that is too large"
words_of kinds.TwoRecipes = codes "a target that gets commands a second time"
words_of kinds.MixedSpecial = codes "a special target beside other targets"
words_of kinds.DefaultPrerequisites = codes ".DEFAULT with prerequisites"
words_of kinds.NoGoal = codes "no goal is given, and the makefile has none"
words_of kinds.NoRule = codes "nothing makes this, and it is not listed"
words_of kinds.Cycle = codes "names that need each other in a ring"
words_of kinds.GraphTooLarge = codes "more than 20,000 names, or more than 200,000 edges"
words_of kinds.BadFootprint = codes "not a valid footprint"
words_of kinds.FootprintsTooLarge = codes "more than 1,000,000 paths in footprints"
words_of kinds.MissingFootprint = codes "a recipe without a footprint"
words_of kinds.WritesTarget = codes "a recipe that writes what belongs to another"
words_of kinds.TooManyPairs = codes "more than 1,000,000 pairs of recipes that conflict"
words_of kinds.BadLog = codes "not a valid line of a log"
words_of kinds.BadProof = codes "not a valid line of a proof"
words_of kinds.UnknownInclude = codes "an include line for a text that is not handed in"
words_of kinds.IncludeTooDeep = codes "texts that include each other too deep"
words_of kinds.TooManyIncludes = codes "more than 1,000 texts are included"
words_of kinds.BadTask = codes "not a valid task"
words_of kinds.TaskTwice = codes "a label or a file that an earlier line has"
words_of kinds.UnknownTask = codes "a label in \"after\" that no earlier line has"
words_of kinds.TooManyTasks = codes "more than 20,000 tasks, or more than 200,000 edges"
words_of kinds.TasksTooLarge = codes "more than 1,000,000 paths in tasks"
words_of kinds.UnusedFootprint = codes "a footprint whose \"target\" nothing makes"
words_of kinds.NotAwaited = codes "a file in \"needs\" whose task is not awaited"

-- the path of a text of a build, as it was given
abbrev pub build_path : BuildArgs → Source → Option (List ℕ)
build_path build sources.Makefile = Some build.makefile.now
build_path build sources.Listing = Some build.listing.now
build_path build sources.Base = option_map (λ path. path.now) build.base
build_path build sources.Includes = option_map (λ path. path.now) build.includes
build_path build _ = None

-- the path of the further input of a question about its jobs, a proof or a log
abbrev pub further_path : JobArgs → Option (List ℕ)
further_path args = option_map (λ known. known.path.now) (other_input args.question)

-- the path of a text that is read for such a question
abbrev pub job_path : JobArgs → Source → Option (List ℕ)
job_path args sources.Footprints = Some args.footprints.now
job_path args sources.Proof = further_path args
job_path args sources.Log = further_path args
job_path args source = build_path args.build source

-- the path of the input that a question about tasks has beside them, a listing or a proof
abbrev pub other_path : TaskQuestion → Option (List ℕ)
other_path (questions.Verify proof short) = Some proof.now
other_path (questions.Missing listing) = Some listing.now
other_path _ = None

-- and of what is asked about tasks
abbrev pub task_path : TaskArgs → Source → Option (List ℕ)
task_path args sources.Tasks = Some args.tasks.now
task_path args sources.Listing = other_path args.question
task_path args sources.Proof = other_path args.question
task_path args _ = None

-- the path that was given for a text
abbrev pub path_of : Request → Source → Option (List ℕ)
path_of (requests.Order build) source = build_path build source
path_of (requests.Jobs args) source = job_path args source
path_of (requests.Tasks args) source = task_path args source

-- who speaks of a fault that is in no file: an included text, by its name, or else the program
abbrev pub speaker : Source → List ℕ
speaker (sources.Include name) = shown name
speaker _ = codes "race"

-- where the fault is: in the file of this path, if one was given
abbrev pub file_text : Option (List ℕ) → Source → List ℕ
file_text None source = speaker source
file_text (Some path) source = path

-- the line that it is at, which is 0 where its place is no line
abbrev pub line_of : Source → ℕ → ℕ
line_of sources.Settings place = 0
line_of sources.Includes place = 0
line_of sources.Graph place = 0
line_of sources.Jobs place = 0
line_of _ place = place

-- a line behind a colon, where there is one
abbrev pub at_line : ℕ → List ℕ
at_line number = if number == 0 then [] else codes ":" ++ decimal number

-- names behind a colon, where there are any
abbrev pub names_text : List Name → List ℕ
names_text [] = []
names_text (first ∷ rest) = codes ":" ++ flat_map (λ name. codes " " ++ shown name) (first ∷ rest)

-- how race-explain is asked for more, and a newline
abbrev pub more_text : Kind → List ℕ
more_text kind = codes " (race-explain F" ++ decimal (number_of kind) ++ codes ")\n"

-- where a fault of this source and this place is
abbrev pub place_text : Request → Source → ℕ → List ℕ
place_text request source place = file_text (path_of request source) source ++ at_line (line_of source place)

-- the line of a fault
abbrev pub fault_line : Request → Reported → List ℕ
fault_line request reported =
    place_text request reported.source reported.place ++ codes ": " ++ words_of reported.kind ++ names_text reported.names
    ++ more_text reported.kind

-- the report of a fault, where that is the answer
abbrev pub refusal_in : Status → List ℕ → Option (List ℕ)
refusal_in statuses.Refused text = Some text
refusal_in _ text = None

-- the line of the fault, where there is one
abbrev pub fault_text : Request → Option Reported → List ℕ
fault_text request None = []
fault_text request (Some reported) = fault_line request reported

-- that, and the note; or nothing where the request is quiet
abbrev pub said_beside : Request → Option Reported → List ℕ → List ℕ
said_beside request fault note = if is_quiet request then [] else fault_text request fault ++ note

-- this is said beside an answer with this note: of a refusal it says what the report says
abbrev pub IsSaidBeside : Request → Status → List ℕ → List ℕ → List ℕ → Type 0
IsSaidBeside request status text note said =
    (fault : Option Reported) × (refusal_in status text ≡ option_map refused_text fault) × (said ≡ said_beside request fault note)
