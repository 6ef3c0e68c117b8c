-- Lemmas on the answers to a check.
use Rattle.std.proofs.Common.{◌≡◌, ◌≢◌, ◌∙◌, ◌==◌, inl, inr, ℕ, Bool, false, List, [], ◌++◌, Option, Some, None, Ok, Err, ap, sym, refl, codes, slice_index_or}
use Rattle.std.proofs.lemmas.Bool.{false≢true}
use Rattle.std.proofs.lemmas.List.Elements.{All-cons, All-head, All-nil}
use Rattle.std.specs.Borrow.{Bor}
use Rattle.clap.specs.Words.{Row, Text}
use Rattle.mk_report.specs.Reports.{IsReport}
use Rattle.mk_report.specs.declared.answer.BuildAnswer.{BuildAnswer}
use Rattle.mk_report.specs.declared.answer.BuildAnswer.TheVariants as judged
use Rattle.mk_race.specs.Judged.{HoldsOfRace, IsSafeAnswer, NoScheduleShows}
use Rattle.mk_race.specs.Stages.{Texts}
use Rattle.mk_race.specs.Tasked as tasked
use Rattle.mk_program.specs.Answers.{AskToCheck, IsAnswerTo, IsCheckAnswer, IsJobAnswer, IsTasksAnswer, SaysJudged, SaysSafe, judged_status}
use Rattle.mk_program.specs.Noting.{SaysNoting}
use Rattle.mk_request.specs.CommandLine.{Asks, IsJobQuestion, IsQuestion, asked}
use Rattle.mk_files.specs.Includes.{Pair}
use Rattle.mk_files.specs.Inputs.{Hold, IsLeftOut}
use Rattle.mk_request.specs.Requests.{input_at, listing_input, proof_input}
use Rattle.mk_request.specs.declared.inputs.InputFile.{InputFile}
use Rattle.mk_request.specs.declared.inputs.InputFile.TheVariants as inputs
use Rattle.mk_request.specs.declared.inputs.InputPath.{InputPath}
use Rattle.mk_request.specs.declared.requests.JobArgs.{JobArgs}
use Rattle.mk_request.specs.declared.requests.JobQuestion.{JobQuestion}
use Rattle.mk_request.specs.declared.requests.JobQuestion.TheVariants as jobs
use Rattle.mk_request.specs.declared.requests.Request.{Request}
use Rattle.mk_request.specs.declared.requests.Request.TheVariants as requests
use Rattle.mk_request.specs.declared.requests.TaskArgs.{TaskArgs}
use Rattle.mk_request.specs.declared.requests.TaskQuestion.{TaskQuestion}
use Rattle.mk_request.specs.declared.requests.TaskQuestion.TheVariants as questions
use Rattle.mk_program.specs.declared.statuses.Status.{Status}
use Rattle.mk_program.specs.declared.statuses.Status.TheVariants.{Done, Failed, No, Refused}

-- a build that is said to be safe is
noted_safe : (strict short : Bool) (texts : Texts) (footprints : List ℕ) (proof : Bool) (text note : List ℕ)
    → SaysNoting strict texts footprints (IsCheckAnswer short texts footprints proof) Done text note → NoScheduleShows texts footprints
noted_safe strict short texts footprints proof text note (Ok noted, is, says) = says.0.headline
noted_safe strict short texts footprints proof text note (Err reported, is, says) = absurd (let e : ◌≡◌ {A = Status} Done Refused = says.0 in cc)

-- what is reported of a build or of tasks that were judged is their answer
pub judged_is : (Is : BuildAnswer → Type 0) (Headline : Type 0) (answer : BuildAnswer) (proof : Bool) (status : Status) (text : List ℕ)
    → Is answer → (IsSafeAnswer answer → Headline) → HoldsOfRace answer → status ≡ judged_status answer → IsReport answer proof text
    → SaysJudged Is Headline proof status text
judged_is Is Headline (judged.Safe jobs chains) proof status text answered headline holds ends report =
    rw ends (record { jobs = jobs; chains = chains; answer = answered; report = report; headline = headline tt })
judged_is Is Headline (judged.Race jobs trace) proof status text answered headline holds ends report =
    rw ends (record { jobs = jobs; trace = trace; answer = answered; report = report; holds = holds })
judged_is Is Headline (judged.Refused reported) proof status text answered headline holds ends report = rw ends (reported, answered, report)

-- so is what is said of more, where that has what it has
pub judged_more : (Is Other : BuildAnswer → Type 0) (Headline Claim : Type 0) → ((answer : BuildAnswer) → Is answer → Other answer) → (Headline → Claim)
    → (proof : Bool) (status : Status) (text : List ℕ) → SaysJudged Is Headline proof status text → SaysJudged Other Claim proof status text
judged_more Is Other Headline Claim more claims proof Done text said =
    record { jobs = said.jobs; chains = said.chains; answer = more _ said.answer; report = said.report; headline = claims said.headline }
judged_more Is Other Headline Claim more claims proof No text said =
    record { jobs = said.jobs; trace = said.trace; answer = more _ said.answer; report = said.report; holds = said.holds }
judged_more Is Other Headline Claim more claims proof Refused text said = (said.0, more _ said.1, said.2)
judged_more Is Other Headline Claim more claims proof Failed text said = said

-- a build that was judged is reported
pub judged_ends : (answer : BuildAnswer) (status : Status) → status ≡ judged_status answer → status ≢ Failed
judged_ends (judged.Safe jobs chains) status ends failed = let e : ◌≡◌ {A = Status} Done Failed = sym ends ∙ failed in cc
judged_ends (judged.Race jobs trace) status ends failed = let e : ◌≡◌ {A = Status} No Failed = sym ends ∙ failed in cc
judged_ends (judged.Refused reported) status ends failed = let e : ◌≡◌ {A = Status} Refused Failed = sym ends ∙ failed in cc

-- a name that begins with another letter is not that of a check
not_check : (name : Text) → (found : Text) → found ≡ codes "check" → found ≡ name → (slice_index_or name 0 0 == 99) ≡ false → ⊥
not_check name found check is first =
    false≢true (sym first ∙ ap (λ (text : Text). slice_index_or text 0 0 == 99) (sym is ∙ check))

-- what is asked about jobs is whether they are safe
job_asked : (o : Option (Text × List Row)) (args : JobArgs) → AskToCheck o → Asks (requests.Jobs args) o
    → (name : Text) × (rows : List Row) × (name ≡ codes "check") × IsJobQuestion args.question name rows
job_asked None args check asks = absurd check
job_asked (Some found) args check asks = (found.0, found.1, check, asks.question)

-- what is reported of safe jobs says that no schedule shows
job_safe : (question : JobQuestion) (strict : Bool) (texts : Texts) (text : InputFile → List ℕ) (answer note : List ℕ)
    → (name : Text) × (rows : List Row) × (name ≡ codes "check") × IsJobQuestion question name rows
    → IsJobAnswer question strict texts text Done answer note → NoScheduleShows texts (text inputs.Footprints)
job_safe (jobs.Check proof short) strict texts text answer note asks says = noted_safe strict short texts (text inputs.Footprints) proof answer note says
job_safe (jobs.Verify proof short) strict texts text answer note asks says = absurd (not_check (codes "verify") asks.0 asks.2 asks.3.0 refl)
job_safe (jobs.Replay args) strict texts text answer note asks says = absurd (not_check (codes "replay") asks.0 asks.2 asks.3.0 refl)
job_safe (jobs.Serialise args) strict texts text answer note asks says = absurd (not_check (codes "serialise") asks.0 asks.2 asks.3.0 refl)
job_safe jobs.List strict texts text answer note asks says = absurd (not_check (codes "list") asks.0 asks.2 asks.3.0 refl)
job_safe (jobs.Fix proof) strict texts text answer note asks says = absurd (not_check (codes "fix") asks.0 asks.2 asks.3.0 refl)
job_safe jobs.Missing strict texts text answer note asks says = absurd (not_check (codes "missing") asks.0 asks.2 asks.3.0 refl)

-- what is asked about tasks is whether they are safe
question_asked : (o : Option (Text × List Row)) (args : TaskArgs) → AskToCheck o → Asks (requests.Tasks args) o
    → (name : Text) × (rows : List Row) × (name ≡ codes "check") × IsQuestion args.question name rows
question_asked None args check asks = absurd check
question_asked (Some found) args check asks = (found.0, found.1, check, asks.question)

-- the text of tasks alone
only_tasks : List ℕ → InputFile → List ℕ
only_tasks tasks inputs.Include = []
only_tasks tasks inputs.Base = []
only_tasks tasks inputs.Makefile = []
only_tasks tasks inputs.Listing = []
only_tasks tasks inputs.Footprints = []
only_tasks tasks inputs.Proof = []
only_tasks tasks inputs.Log = []
only_tasks tasks inputs.Tasks = tasks

-- the text of each other input is empty
no_others : (tasks : List ℕ) (path : Bor (List ℕ)) (input : InputFile) → IsLeftOut (input_at inputs.Tasks path) input → only_tasks tasks input ≡ []
unfolding only_tasks
no_others tasks path inputs.Include out = refl
no_others tasks path inputs.Base out = refl
no_others tasks path inputs.Makefile out = refl
no_others tasks path inputs.Listing out = refl
no_others tasks path inputs.Footprints out = refl
no_others tasks path inputs.Proof out = refl
no_others tasks path inputs.Log out = refl
no_others tasks path inputs.Tasks out = absurd (All-head (λ (known : InputPath). known.input ≢ inputs.Tasks) _ [] out refl)

-- what is reported of safe tasks says that no schedule shows
question_safe : (question : TaskQuestion) (path root : Bor (List ℕ)) (files : List ℕ → Option (List ℕ)) (answer : List ℕ)
    → (name : Text) × (rows : List Row) × (name ≡ codes "check") × IsQuestion question name rows
    → ((includes : List Pair) (text : InputFile → List ℕ) → Some [] ≡ Some includes → Hold files (listing_input question ++ input_at inputs.Tasks path ++ proof_input question) text
    → IsTasksAnswer question root.now text Done answer)
    → (tasks : List ℕ) → files path.now ≡ Some tasks → tasked.NoScheduleOfTasksShows root.now tasks
unfolding only_tasks
question_safe (questions.Check proof short) path root files answer asks reported tasks opened =
    let hold : Hold files (input_at inputs.Tasks path) (only_tasks tasks) = record {
      each = All-cons (λ (known : InputPath). files known.path.now ≡ Some (only_tasks tasks known.input)) _ [] opened
          (All-nil (λ (known : InputPath). files known.path.now ≡ Some (only_tasks tasks known.input)));
      others = no_others tasks path;
    } in
    (reported [] (only_tasks tasks) refl hold).headline
question_safe (questions.Verify proof short) path root files answer asks reported tasks opened = absurd (not_check (codes "verify") asks.0 asks.2 asks.3.0 refl)
question_safe questions.List path root files answer asks reported tasks opened = absurd (not_check (codes "list") asks.0 asks.2 asks.3 refl)
question_safe (questions.Fix proof) path root files answer asks reported tasks opened = absurd (not_check (codes "fix") asks.0 asks.2 asks.3.0 refl)
question_safe (questions.Missing listing) path root files answer asks reported tasks opened = absurd (not_check (codes "missing") asks.0 asks.2 asks.3.0 refl)

-- who asks for the subcommand of another name does not ask to check
not_asked : (name : Text) (request : Request) (o : Option (Text × List Row)) → ((found : Text × List Row) → Asks request (Some found) → found.0 ≡ name)
    → (slice_index_or name 0 0 == 99) ≡ false → AskToCheck o → Asks request o → ⊥
not_asked name request None named first check asks = absurd check
not_asked name request (Some found) named first check asks = not_check name found.0 check (named found asks) first

-- what is reported of a safe build, or of safe tasks, says that no schedule shows
pub says_safe : (words : List (Bor Text)) (files : List ℕ → Option (List ℕ)) (text note : List ℕ) → AskToCheck (asked words)
    → IsAnswerTo words files Done text note → SaysSafe words files
says_safe words files text note check (requests.Order build, asks, answer) =
    absurd (not_asked (codes "order") (requests.Order build) (asked words) (λ found named. named.0) refl check asks)
says_safe words files text note check (requests.Jobs args, asks, answer) =
    inl (
      args,
      asks,
      λ includes texts opened held.
          job_safe args.question args.strict _ texts text answer.0 (job_asked (asked words) args check asks) (answer.1 includes texts opened held),
    )
says_safe words files text note check (requests.Tasks args, asks, answer) =
    inr (
      args,
      asks,
      question_safe args.question args.tasks args.root files text (question_asked (asked words) args check asks)
          (λ includes texts opened held. (answer.1 includes texts opened held).0),
    )
