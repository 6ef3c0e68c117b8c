-- The inputs of a request, in the order in which they are opened and read; the includes come before.
use Rattle.std.specs.Prelude.{ℕ, Bool, List, [], ◌∷◌, ◌++◌, Option, Some, None, option_map}
use Rattle.std.specs.Borrow.{Bor}
use Rattle.std.specs.Option.{option_to_list}
use Rattle.mk_request.specs.declared.inputs.InputFile.{InputFile}
use Rattle.mk_request.specs.declared.inputs.InputFile.TheVariants as inputs
use Rattle.mk_request.specs.declared.inputs.InputPath.{InputPath}
use Rattle.mk_request.specs.declared.requests.BuildArgs.{BuildArgs}
use Rattle.mk_request.specs.declared.requests.JobQuestion.{JobQuestion}
use Rattle.mk_request.specs.declared.requests.JobQuestion.TheVariants as jobs
use Rattle.mk_request.specs.declared.requests.Request.{Request}
use Rattle.mk_request.specs.declared.requests.Request.TheVariants as requests
use Rattle.mk_request.specs.declared.requests.TaskQuestion.{TaskQuestion}
use Rattle.mk_request.specs.declared.requests.TaskQuestion.TheVariants as questions

-- an input whose file has this path
abbrev pub input_at : InputFile → Bor (List ℕ) → List InputPath
input_at input path = record { input = input; path = path } ∷ []

-- the base makefile, where one is given
abbrev pub base_input : Option (Bor (List ℕ)) → List InputPath
base_input None = []
base_input (Some path) = input_at inputs.Base path

-- what is read of a build
abbrev pub build_inputs : BuildArgs → List InputPath
build_inputs build = base_input build.base ++ input_at inputs.Makefile build.makefile ++ input_at inputs.Listing build.listing

-- nothing is said beside the answer
abbrev pub is_quiet : Request → Bool
is_quiet (requests.Order build) = build.quiet
is_quiet (requests.Jobs args) = args.build.quiet
is_quiet (requests.Tasks tasks) = tasks.quiet

-- the path of the file of includes, where one is given
abbrev pub includes_path : Request → Option (List ℕ)
includes_path (requests.Order build) = option_map (λ path. path.now) build.includes
includes_path (requests.Jobs args) = option_map (λ path. path.now) args.build.includes
includes_path (requests.Tasks tasks) = None

-- the input that a question about jobs has beside those of a build and its footprints
abbrev pub other_input : JobQuestion → Option InputPath
other_input (jobs.Check print_proof short) = None
other_input (jobs.Verify proof short) = Some (record { input = inputs.Proof; path = proof })
other_input (jobs.Replay args) = Some (record { input = inputs.Log; path = args.log })
other_input (jobs.Serialise args) = Some (record { input = inputs.Log; path = args.log })
other_input jobs.List = None
other_input (jobs.Fix print_proof) = None
other_input jobs.Missing = None

-- what is read for a question about the jobs of a build: one more input may come behind the footprints
abbrev pub job_inputs : BuildArgs → Bor (List ℕ) → Option InputPath → List InputPath
job_inputs build footprints other = build_inputs build ++ input_at inputs.Footprints footprints ++ option_to_list other

-- the listing beside tasks, where it is asked what is missing
abbrev pub listing_input : TaskQuestion → List InputPath
listing_input (questions.Check print_proof short) = []
listing_input (questions.Verify proof short) = []
listing_input questions.List = []
listing_input (questions.Fix print_proof) = []
listing_input (questions.Missing listing) = input_at inputs.Listing listing

-- the proof, where it is asked whether one is accepted
abbrev pub proof_input : TaskQuestion → List InputPath
proof_input (questions.Check print_proof short) = []
proof_input (questions.Verify proof short) = input_at inputs.Proof proof
proof_input questions.List = []
proof_input (questions.Fix print_proof) = []
proof_input (questions.Missing listing) = []

-- the inputs without the includes
abbrev pub inputs_of : Request → List InputPath
inputs_of (requests.Order build) = build_inputs build
inputs_of (requests.Jobs args) = job_inputs args.build args.footprints (other_input args.question)
inputs_of (requests.Tasks tasks) = listing_input tasks.question ++ input_at inputs.Tasks tasks.tasks ++ proof_input tasks.question
