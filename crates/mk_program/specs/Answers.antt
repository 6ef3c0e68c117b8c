-- What the program answers to a request, over what the files hold, and what it writes of that.
use Rattle.std.specs.Prelude.{◌≡◌, ◌≢◌, ◌⊎◌, ℕ, Bool, true, false, List, [], ◌∷◌, ◌++◌, Result, Ok, Err, Option, None, Some, map, codes, length, if◌then◌else◌}
use Rattle.std.specs.Borrow.{Bor}
use Rattle.std.specs.Io.KnownBytes.{Appends}
use Rattle.clap.specs.Words.{Row, Text}
use Rattle.mk_name.specs.Shown.{line, refused_text}
use Rattle.mk_name.specs.Reported.{Reported}
use Rattle.mk_device.specs.Device.{AppendsBeginning}
use Rattle.mk_cert.specs.Traces.{TraceHolds}
use Rattle.mk_decide.specs.Decisions.{AreSafeBy}
use Rattle.mk_jobs.specs.Jobs.{Jobs}
use Rattle.mk_proof.specs.Shapes.{Trace}
use Rattle.mk_proof.specs.ProofText.{certificate_text}
use Rattle.mk_race.specs.Fixed.{IsFixing, with_lines}
use Rattle.mk_race.specs.Judged.{IsAnswered, IsDecided, NoScheduleShows, ThenAnswer}
use Rattle.mk_race.specs.Listed.{IsListed, IsListedOf}
use Rattle.mk_race.specs.Missing.{BuildsAsClean, IsEmpty, IsMissingList}
use Rattle.mk_race.specs.Played.{IsPlayed}
use Rattle.mk_race.specs.Serialised.{IsLawfulBuild, IsSerialised}
use Rattle.mk_race.specs.Stages.{ForAllBuilds, IsPlanned, Texts, Then}
use Rattle.mk_race.specs.Tasked as tasked
use Rattle.mk_race.specs.TasksFixed.{FixHolds, IsTaskFixing}
use Rattle.mk_race.specs.TasksMissing.{IsMissingListBelow, TasksBuildAsClean}
use Rattle.mk_race.specs.Verified.{IsVerified, IsVerifiedOn, ProofShows}
use Rattle.mk_race.specs.declared.fixing.Fixing.{Fixing}
use Rattle.mk_race.specs.declared.fixing.Fixing.TheVariants.{Fixed, NotFixed}
use Rattle.mk_race.specs.declared.listing.RaceList.{RaceList}
use Rattle.mk_race.specs.declared.missing.MissingList.{MissingList}
use Rattle.mk_race.specs.declared.replaying.Played.{Played}
use Rattle.mk_race.specs.declared.replaying.Played.TheVariants.{Allowed, NotAllowed}
use Rattle.mk_race.specs.declared.planning.Planned.{Planned}
use Rattle.mk_race.specs.declared.serialising.Serialised.{Serialised}
use Rattle.mk_race.specs.declared.tasks_fixing.TaskFixing.{TaskFixing}
use Rattle.mk_race.specs.declared.tasks_fixing.TaskFixing.TheVariants as tasks_fixed
use Rattle.mk_report.specs.FixText.{not_fixed_text}
use Rattle.mk_report.specs.MissingText.{missing_text}
use Rattle.mk_report.specs.RacesText.{IsRacesText}
use Rattle.mk_report.specs.Reports.{IsReport}
use Rattle.mk_report.specs.declared.answer.BuildAnswer.{BuildAnswer}
use Rattle.mk_report.specs.declared.answer.BuildAnswer.TheVariants as judged
use Rattle.mk_sched.specs.declared.refusal.Refusal.{Refusal}
use Rattle.mk_sched.specs.declared.replay.Replayed.{Replayed}
use Rattle.mk_program.specs.ChangeText.{change_text}
use Rattle.mk_program.specs.FaultText.{IsSaidBeside}
use Rattle.mk_request.specs.CommandLine.{Asks, HasMistake, IsAnswerable, asked, wrong}
use Rattle.mk_files.specs.Files.{Files}
use Rattle.mk_files.specs.Includes.{IncludesMayBeRead, IncludesMayFail, Pair, includes_in}
use Rattle.mk_files.specs.Inputs.{Hold, InputsMayBeRead, IsShortOr, IsUnread}
use Rattle.mk_program.specs.Noting.{SaysNoting}
use Rattle.mk_program.specs.OrderText.{IsNoText, IsOrderedText, order_status}
use Rattle.mk_program.specs.OutcomeText.{IsOutcomeText}
use Rattle.mk_program.specs.PlanText.{plan_text}
use Rattle.mk_program.specs.PosixBase.{posix_base}
use Rattle.mk_request.specs.Requests.{includes_path, inputs_of}
use Rattle.mk_files.specs.declared.failures.Failure.{Failure}
use Rattle.mk_files.specs.declared.failures.Failure.TheVariants as failures
use Rattle.mk_request.specs.declared.inputs.InputFile.{InputFile}
use Rattle.mk_request.specs.declared.inputs.InputFile.TheVariants as inputs
use Rattle.mk_request.specs.declared.inputs.InputPath.{InputPath}
use Rattle.mk_request.specs.declared.requests.BuildArgs.{BuildArgs}
use Rattle.mk_request.specs.declared.requests.JobArgs.{JobArgs}
use Rattle.mk_request.specs.declared.requests.JobQuestion.{JobQuestion}
use Rattle.mk_request.specs.declared.requests.JobQuestion.TheVariants as jobs
use Rattle.mk_request.specs.declared.requests.Request.{Request}
use Rattle.mk_request.specs.declared.requests.Request.TheVariants as requests
use Rattle.mk_request.specs.declared.requests.TaskArgs.{TaskArgs}
use Rattle.mk_request.specs.declared.requests.TaskQuestion.{TaskQuestion}
use Rattle.mk_request.specs.declared.requests.TaskQuestion.TheVariants as questions
use Rattle.mk_program.specs.declared.statuses.Status.{Status}
use Rattle.mk_program.specs.declared.statuses.Status.TheVariants as statuses

-- the text of the plan, or the report of the fault that refuses the texts
abbrev pub IsOrderAnswer : Texts → Status → List ℕ → Type 0
IsOrderAnswer texts statuses.Done text = (planned : Planned) × IsPlanned texts (Ok planned) × (text ≡ plan_text planned.plan)
IsOrderAnswer texts statuses.No text = ⊥
IsOrderAnswer texts statuses.Refused text = (reported : Reported) × IsPlanned texts (Err reported) × (text ≡ refused_text reported)
IsOrderAnswer texts statuses.Failed text = ⊥

-- the text of the run, or of the refusal of an event or of the files, or the report of the fault that refuses the texts
abbrev pub IsReplayAnswer : Texts → List ℕ → List ℕ → ℕ → Bool → Status → List ℕ → Type 0
IsReplayAnswer texts footprints log limit tie statuses.Done text =
    (replayed : Replayed) × IsPlayed texts footprints log limit tie (Ok (Allowed replayed)) × IsOutcomeText (Allowed replayed) text
IsReplayAnswer texts footprints log limit tie statuses.No text =
    (place : ℕ) × (refusal : Refusal) × IsPlayed texts footprints log limit tie (Ok (NotAllowed place refusal)) × IsOutcomeText (NotAllowed place refusal) text
IsReplayAnswer texts footprints log limit tie statuses.Refused text =
    (reported : Reported) × IsPlayed texts footprints log limit tie (Err reported) × (text ≡ refused_text reported)
IsReplayAnswer texts footprints log limit tie statuses.Failed text = ⊥

-- what was judged is safe by a certificate, and then the headline holds
pub record IsReportedSafe (Is : BuildAnswer → Type 0) (Headline : Type 0) (proof : Bool) (text : List ℕ) : Type 0 where
  pub jobs : Jobs
  pub chains : List (List ℕ)
  pub answer : Is (judged.Safe jobs chains)
  pub report : IsReport (judged.Safe jobs chains) proof text
  pub headline : Headline

-- two recipes of it race, as its trace shows
pub record IsReportedRace (Is : BuildAnswer → Type 0) (proof : Bool) (text : List ℕ) : Type 0 where
  pub jobs : Jobs
  pub trace : Trace
  pub answer : Is (judged.Race jobs trace)
  pub report : IsReport (judged.Race jobs trace) proof text
  pub holds : TraceHolds jobs trace

-- that it is safe, or that two recipes race, each by the report or by its proof; or the report of the fault that refuses the texts
abbrev pub SaysJudged : (BuildAnswer → Type 0) → Type 0 → Bool → Status → List ℕ → Type 0
SaysJudged Is Headline proof statuses.Done text = IsReportedSafe Is Headline proof text
SaysJudged Is Headline proof statuses.No text = IsReportedRace Is proof text
SaysJudged Is Headline proof statuses.Refused text = (reported : Reported) × Is (judged.Refused reported) × (text ≡ refused_text reported)
SaysJudged Is Headline proof statuses.Failed text = ⊥

-- that of a build: where it is safe, no schedule of it shows in its files
abbrev pub IsCheckAnswer : Bool → Texts → List ℕ → Bool → Status → List ℕ → Type 0
IsCheckAnswer short texts footprints proof status text =
    SaysJudged (IsAnswered short texts footprints) (NoScheduleShows texts footprints) proof status text

-- that of tasks below a root: where they are safe, each of them starts, and no schedule of them shows in their files
abbrev pub IsTaskCheckAnswer : Bool → List ℕ → List ℕ → Bool → Status → List ℕ → Type 0
IsTaskCheckAnswer short root tasks proof status text =
    SaysJudged (ThenAnswer (tasked.tasked root tasks) (IsDecided short)) (tasked.NoScheduleOfTasksShows root tasks) proof status text

-- no schedule shows, of a build of these jobs or of tasks that mean them
abbrev pub NoScheduleOfJobsShows : Jobs → Type 0
NoScheduleOfJobsShows jobs = ForAllBuilds jobs NoScheduleShows × tasked.ForAllTasks jobs tasked.NoScheduleOfTasksShows

-- that of jobs, of a build or of tasks
abbrev pub IsJudgedAnswer : Bool → Jobs → Bool → Status → List ℕ → Type 0
IsJudgedAnswer short jobs = SaysJudged (IsDecided short jobs) (NoScheduleOfJobsShows jobs)

-- how the program ends after a build or tasks were judged
abbrev pub judged_status : BuildAnswer → Status
judged_status (judged.Safe jobs chains) = statuses.Done
judged_status (judged.Race jobs trace) = statuses.No
judged_status (judged.Refused reported) = statuses.Refused

-- the text of a proof's judgement
abbrev pub verdict_text : Bool → List ℕ
verdict_text accepted = line (if accepted then codes "accepted" else codes "not accepted")

-- that the proof is accepted, where what it shows is so; or that it is not; or the report of the fault that refuses the texts
abbrev pub SaysVerdict : (Result Bool Reported → Type 0) → Type 0 → Status → List ℕ → Type 0
SaysVerdict Is Shown statuses.Done text = Is (Ok true) × Shown × (text ≡ verdict_text true)
SaysVerdict Is Shown statuses.No text = Is (Ok false) × (text ≡ verdict_text false)
SaysVerdict Is Shown statuses.Refused text = (reported : Reported) × Is (Err reported) × (text ≡ refused_text reported)
SaysVerdict Is Shown statuses.Failed text = ⊥

-- that of a proof for a build
abbrev pub IsVerifyAnswer : Bool → Texts → List ℕ → List ℕ → Status → List ℕ → Type 0
IsVerifyAnswer short texts footprints proof status text =
    SaysVerdict (IsVerified short texts footprints proof) (ProofShows texts footprints proof) status text

-- that of a proof for tasks below a root
abbrev pub IsTaskVerifyAnswer : Bool → List ℕ → List ℕ → List ℕ → Status → List ℕ → Type 0
IsTaskVerifyAnswer short root tasks proof status text =
    SaysVerdict (Then (tasked.tasked root tasks) (λ jobs. IsVerifiedOn short jobs proof)) (tasked.ProofOfTasksShows root tasks proof) status text

-- what a proof shows is so of each build of these jobs, and of all tasks that mean them
abbrev pub ProofOfJobsShows : Jobs → List ℕ → Type 0
ProofOfJobsShows jobs proof =
    ForAllBuilds jobs (λ texts footprints. ProofShows texts footprints proof)
    × tasked.ForAllTasks jobs (λ root tasks. tasked.ProofOfTasksShows root tasks proof)

-- that of a proof for jobs, of a build or of tasks
abbrev pub IsVerdictAnswer : Bool → Jobs → List ℕ → Status → List ℕ → Type 0
IsVerdictAnswer short jobs proof = SaysVerdict (IsVerifiedOn short jobs proof) (ProofOfJobsShows jobs proof)

-- how the program ends after a proof was judged
abbrev pub verdict_status : Bool → Status
verdict_status accepted = if accepted then statuses.Done else statuses.No

-- how the program ends after a replay
abbrev pub status_of : Played → Status
status_of (Allowed replayed) = statuses.Done
status_of (NotAllowed place refusal) = statuses.No

-- what is reported of a log that was read: its serial order, or why it has none; and what is in order is the same build
abbrev pub IsReportedOrder : Texts → List ℕ → List ℕ → ℕ → Bool → Status → List ℕ → Type 0
IsReportedOrder texts footprints log limit tie status text =
    (given : Serialised) × IsSerialised texts footprints log limit tie (Ok given) × IsLawfulBuild texts footprints log tie given
    × (status ≡ order_status given.order) × IsOrderedText given.jobs given.order text

-- that, or the report of the fault that refuses the texts
abbrev pub IsSerialiseAnswer : Texts → List ℕ → List ℕ → ℕ → Bool → Status → List ℕ → Type 0
IsSerialiseAnswer texts footprints log limit tie statuses.Done text = IsReportedOrder texts footprints log limit tie statuses.Done text
IsSerialiseAnswer texts footprints log limit tie statuses.No text = IsReportedOrder texts footprints log limit tie statuses.No text
IsSerialiseAnswer texts footprints log limit tie statuses.Refused text =
    (reported : Reported) × IsSerialised texts footprints log limit tie (Err reported) × (text ≡ refused_text reported)
IsSerialiseAnswer texts footprints log limit tie statuses.Failed text = ⊥

-- the log in serial order has a name that is no text
abbrev pub HasNoText : Texts → List ℕ → List ℕ → ℕ → Bool → Type 0
HasNoText texts footprints log limit tie =
    (given : Serialised) × IsSerialised texts footprints log limit tie (Ok given) × IsNoText given.jobs given.order

-- how the program ends after all races were listed: with 0 where there is none
abbrev pub races_status : List (ℕ × ℕ) → Status
races_status [] = statuses.Done
races_status (race ∷ races) = statuses.No

-- the report of all races that were listed
abbrev pub IsReportedRaces : (Result RaceList Reported → Type 0) → Status → List ℕ → Type 0
IsReportedRaces Is status text =
    (listed : RaceList) × Is (Ok listed) × (status ≡ races_status listed.found.races.items)
    × IsRacesText listed.jobs listed.found.pairs listed.found.races.items text

-- that report, where the headline holds if there is none; or the report of the fault that refuses the texts
abbrev pub SaysList : (Result RaceList Reported → Type 0) → Type 0 → Status → List ℕ → Type 0
SaysList Is Headline statuses.Done text = IsReportedRaces Is statuses.Done text × Headline
SaysList Is Headline statuses.No text = IsReportedRaces Is statuses.No text
SaysList Is Headline statuses.Refused text = (reported : Reported) × Is (Err reported) × (text ≡ refused_text reported)
SaysList Is Headline statuses.Failed text = ⊥

-- that of a build: without a race no schedule of it shows in its files
abbrev pub IsListAnswer : Texts → List ℕ → Status → List ℕ → Type 0
IsListAnswer texts footprints status text = SaysList (IsListed texts footprints) (NoScheduleShows texts footprints) status text

-- that of tasks below a root: without a race each of them starts, and no schedule of them shows in their files
abbrev pub IsTaskListAnswer : List ℕ → List ℕ → Status → List ℕ → Type 0
IsTaskListAnswer root tasks status text =
    SaysList (Then (tasked.tasked root tasks) IsListedOf) (tasked.NoScheduleOfTasksShows root tasks) status text

-- that of jobs, of a build or of tasks
abbrev pub IsRacesAnswer : Jobs → Status → List ℕ → Type 0
IsRacesAnswer jobs = SaysList (IsListedOf jobs) (NoScheduleOfJobsShows jobs)

-- how the program ends after all races and violations were listed: with 0 where there is none, and no change
abbrev pub MissingEnds : MissingList → Status → Type 0
MissingEnds listed statuses.Done = IsEmpty listed
MissingEnds listed statuses.No = IsEmpty listed → ⊥
MissingEnds listed statuses.Refused = ⊥
MissingEnds listed statuses.Failed = ⊥

-- the report of what was listed: the races and violations, and the change that a second build makes, if it makes one
abbrev pub listed_text : MissingList → List ℕ
listed_text listed =
    missing_text listed.prepared.jobs listed.prepared.listing (length listed.found.races.items) listed.violations
    ++ change_text listed.prepared.jobs listed.change

-- that report of all that was listed
pub record IsReportedMissing (Is : Result MissingList Reported → Type 0) (status : Status) (text : List ℕ) : Type 0 where
  pub listed : MissingList
  pub is : Is (Ok listed)
  pub ends : MissingEnds listed status
  pub report : text ≡ listed_text listed

-- that report, where a build of an old tree leaves what a build of a clean tree leaves if there is none; or the report of the fault that
-- refuses the texts
abbrev pub SaysMissing : (Result MissingList Reported → Type 0) → Type 0 → Status → List ℕ → Type 0
SaysMissing Is Headline statuses.Done text = IsReportedMissing Is statuses.Done text × Headline
SaysMissing Is Headline statuses.No text = IsReportedMissing Is statuses.No text
SaysMissing Is Headline statuses.Refused text = (reported : Reported) × Is (Err reported) × (text ≡ refused_text reported)
SaysMissing Is Headline statuses.Failed text = ⊥

-- that of a build
abbrev pub IsMissingAnswer : Texts → List ℕ → Status → List ℕ → Type 0
IsMissingAnswer texts footprints status text =
    SaysMissing (IsMissingList texts footprints) (BuildsAsClean texts footprints) status text

-- that of tasks below a root, with a listing
abbrev pub IsTaskMissingAnswer : List ℕ → List ℕ → List ℕ → Status → List ℕ → Type 0
IsTaskMissingAnswer root listing tasks status text =
    SaysMissing (IsMissingListBelow root listing tasks) (TasksBuildAsClean root listing tasks) status text

-- the text of a fix: its lines, or the certificate of the jobs with them
abbrev pub IsFixedText : Jobs → List ℕ → Bool → List ℕ → Type 0
IsFixedText jobs lines false text = text ≡ lines
IsFixedText jobs lines true text = (chains : List (List ℕ)) × AreSafeBy jobs chains × (text ≡ certificate_text chains)

-- what is reported of a build that was to be fixed: the text of its fix, and no schedule shows; or the edges that no lines give it
abbrev pub IsFixReported : Texts → List ℕ → Bool → Fixing → Status → List ℕ → Type 0
IsFixReported texts footprints proof (Fixed lines jobs) status text =
    (status ≡ statuses.Done) × NoScheduleShows (with_lines texts lines.items) footprints × IsFixedText jobs lines.items proof text
IsFixReported texts footprints proof (NotFixed jobs edges refusal) status text =
    (status ≡ statuses.No) × (text ≡ not_fixed_text jobs edges.items refusal)

-- what is said of tasks that were to be fixed: the text of their fix, with which no schedule shows; or the edges that they need, which
-- are too many
abbrev pub SaysTasksFixed : List ℕ → List ℕ → Bool → TaskFixing → Status → List ℕ → Type 0
SaysTasksFixed root tasks proof (tasks_fixed.Fixed lines jobs) status text =
    (status ≡ statuses.Done) × FixHolds root tasks jobs × IsFixedText jobs lines.items proof text
SaysTasksFixed root tasks proof (tasks_fixed.NotFixed needs) status text = (status ≡ statuses.No) × (text ≡ needs.items)

-- what is said of a fix, or the report of the fault that refuses the texts
abbrev pub SaysFixing : {F : Type 0} → (Result F Reported → Type 0) → (F → Status → List ℕ → Type 0) → Status → List ℕ → Type 0
SaysFixing {F} Is Says statuses.Done text = (fixing : F) × Is (Ok fixing) × Says fixing statuses.Done text
SaysFixing {F} Is Says statuses.No text = (fixing : F) × Is (Ok fixing) × Says fixing statuses.No text
SaysFixing Is Says statuses.Refused text = (reported : Reported) × Is (Err reported) × (text ≡ refused_text reported)
SaysFixing Is Says statuses.Failed text = ⊥

-- that of a build
abbrev pub IsFixAnswer : Texts → List ℕ → Bool → Status → List ℕ → Type 0
IsFixAnswer texts footprints proof status text = SaysFixing (IsFixing texts footprints) (IsFixReported texts footprints proof) status text

-- that of tasks below a root
abbrev pub IsTaskFixAnswer : List ℕ → List ℕ → Bool → Status → List ℕ → Type 0
IsTaskFixAnswer root tasks proof status text = SaysFixing (IsTaskFixing root tasks) (SaysTasksFixed root tasks proof) status text

-- the base makefile of a build, where this text was read for one
abbrev pub base_of : BuildArgs → List ℕ → List ℕ
base_of build text = if build.posix_base then posix_base else text

-- the texts that a build is planned from
abbrev pub texts_for : BuildArgs → List Pair → (InputFile → List ℕ) → Texts
texts_for build includes text = record {
  root = build.root.now;
  operands = map (λ operand. operand.now) build.operands.items;
  base = base_of build (text inputs.Base);
  makefile = text inputs.Makefile;
  includes = includes;
  listing = text inputs.Listing;
}

-- a question about tasks that their jobs alone answer
abbrev pub IsOfJobs : TaskQuestion → Type 0
IsOfJobs (questions.Check print_proof short) = Unit {0}
IsOfJobs (questions.Verify proof short) = Unit {0}
IsOfJobs questions.List = Unit {0}
IsOfJobs (questions.Fix print_proof) = ⊥
IsOfJobs (questions.Missing listing) = ⊥

-- the answer to a question about tasks below a root, over the texts of its inputs
abbrev pub IsTasksAnswer : TaskQuestion → List ℕ → (InputFile → List ℕ) → Status → List ℕ → Type 0
IsTasksAnswer (questions.Check print_proof short) root text status answer = IsTaskCheckAnswer short root (text inputs.Tasks) print_proof status answer
IsTasksAnswer (questions.Verify proof short) root text status answer = IsTaskVerifyAnswer short root (text inputs.Tasks) (text inputs.Proof) status answer
IsTasksAnswer questions.List root text status answer = IsTaskListAnswer root (text inputs.Tasks) status answer
IsTasksAnswer (questions.Fix print_proof) root text status answer = IsTaskFixAnswer root (text inputs.Tasks) print_proof status answer
IsTasksAnswer (questions.Missing listing) root text status answer = IsTaskMissingAnswer root (text inputs.Listing) (text inputs.Tasks) status answer

-- the answer to a question about the jobs of a build, over the texts of the build and of the inputs
abbrev pub IsAnswerOfJobs : JobQuestion → Texts → (InputFile → List ℕ) → Status → List ℕ → Type 0
IsAnswerOfJobs (jobs.Check print_proof short) texts text = IsCheckAnswer short texts (text inputs.Footprints) print_proof
IsAnswerOfJobs (jobs.Verify proof short) texts text = IsVerifyAnswer short texts (text inputs.Footprints) (text inputs.Proof)
IsAnswerOfJobs (jobs.Replay args) texts text = IsReplayAnswer texts (text inputs.Footprints) (text inputs.Log) args.limit args.tie
IsAnswerOfJobs (jobs.Serialise args) texts text = IsSerialiseAnswer texts (text inputs.Footprints) (text inputs.Log) args.limit args.tie
IsAnswerOfJobs jobs.List texts text = IsListAnswer texts (text inputs.Footprints)
IsAnswerOfJobs (jobs.Fix print_proof) texts text = IsFixAnswer texts (text inputs.Footprints) print_proof
IsAnswerOfJobs jobs.Missing texts text = IsMissingAnswer texts (text inputs.Footprints)

-- that answer and its note; a strict build is refused if footprints lie unused
abbrev pub IsJobAnswer : JobQuestion → Bool → Texts → (InputFile → List ℕ) → Status → List ℕ → List ℕ → Type 0
IsJobAnswer question strict texts text = SaysNoting strict texts (text inputs.Footprints) (IsAnswerOfJobs question texts text)

-- the answer to a request and its note, which may be empty, over the texts of its includes and of its inputs
abbrev pub IsAnswerOver : Request → List Pair → (InputFile → List ℕ) → Status → List ℕ → List ℕ → Type 0
IsAnswerOver (requests.Order build) includes text status answer note = IsOrderAnswer (texts_for build includes text) status answer × (note ≡ [])
IsAnswerOver (requests.Jobs args) includes text status answer note =
    IsJobAnswer args.question args.strict (texts_for args.build includes text) text status answer note
IsAnswerOver (requests.Tasks args) includes text status answer note =
    IsTasksAnswer args.question args.root.now text status answer × (note ≡ [])

-- that, over what its files hold
abbrev pub IsNotedAnswer : Request → (List ℕ → Option (List ℕ)) → Status → List ℕ → List ℕ → Type 0
IsNotedAnswer request files status answer note =
    (includes : List Pair) (text : InputFile → List ℕ) → includes_in files (includes_path request) ≡ Some includes → Hold files (inputs_of request) text
    → IsAnswerOver request includes text status answer note

-- the answer to a request, and what is said beside it
abbrev pub IsRequestAnswer : Request → (List ℕ → Option (List ℕ)) → Status → List ℕ → List ℕ → Type 0
IsRequestAnswer request files status answer said =
    (note : List ℕ) × IsNotedAnswer request files status answer note × IsSaidBeside request status answer note said

-- the words ask to check a build or tasks
abbrev pub AskToCheck : Option (Text × List Row) → Type 0
AskToCheck None = ⊥
AskToCheck (Some found) = found.0 ≡ codes "check"

-- no schedule of the build that is asked about shows in its files, where its texts are those that these files hold
abbrev pub IsSafeBuild : JobArgs → (List ℕ → Option (List ℕ)) → Type 0
IsSafeBuild args files =
    (includes : List Pair) (text : InputFile → List ℕ) → includes_in files (includes_path (requests.Jobs args)) ≡ Some includes
    → Hold files (inputs_of (requests.Jobs args)) text → NoScheduleShows (texts_for args.build includes text) (text inputs.Footprints)

-- each of the tasks that are to be checked starts, and no schedule of them shows in their files, where this is the text that
-- their file holds
abbrev pub AreSafeTasks : TaskArgs → (List ℕ → Option (List ℕ)) → Type 0
AreSafeTasks tasks files = (text : List ℕ) → files tasks.tasks.now ≡ Some text → tasked.NoScheduleOfTasksShows tasks.root.now text

-- the words ask about a build or tasks, and no schedule of these shows in the files
abbrev pub SaysSafe : List (Bor Text) → (List ℕ → Option (List ℕ)) → Type 0
SaysSafe words files =
    ((args : JobArgs) × Asks (requests.Jobs args) (asked words) × IsSafeBuild args files)
    ⊎ ((tasks : TaskArgs) × Asks (requests.Tasks tasks) (asked words) × AreSafeTasks tasks files)

-- the answer to what these words ask, and what is said beside it
abbrev pub IsAnswerTo : List (Bor Text) → (List ℕ → Option (List ℕ)) → Status → List ℕ → List ℕ → Type 0
IsAnswerTo words files status answer note = (request : Request) × Asks request (asked words) × IsRequestAnswer request files status answer note

-- the answer was written behind what stood there
abbrev pub WritesAnswer : List (Bor Text) → (List ℕ → Option (List ℕ)) → Status → Option (List ℕ) → Option (List ℕ) → Type 0
WritesAnswer words files status old new = (text note : List ℕ) × Appends old new text × IsAnswerTo words files status text note

-- a beginning of it was written there, and nothing else
abbrev pub WritesBeginning : List (Bor Text) → (List ℕ → Option (List ℕ)) → Option (List ℕ) → Option (List ℕ) → Type 0
WritesBeginning words files old new = (status : Status) × (text note : List ℕ) × AppendsBeginning old new text × IsAnswerTo words files status text note

-- and what is said beside it behind what stood on another device
abbrev pub WritesNote : List (Bor Text) → (List ℕ → Option (List ℕ)) → Status → Option (List ℕ) → Option (List ℕ) → Option (List ℕ) → Option (List ℕ) → Type 0
WritesNote words files status old new before after =
    (text note : List ℕ) × Appends old new text × Appends before after note × IsAnswerTo words files status text note

-- something is said beside it
abbrev pub HasNote : List (Bor Text) → (List ℕ → Option (List ℕ)) → Status → Type 0
HasNote words files status = (text note : List ℕ) × (note ≢ []) × IsAnswerTo words files status text note

-- the log in serial order that a question about jobs is to write has a name that is no text, over the texts of the build and of the inputs
abbrev pub IsNoTextOf : JobQuestion → Texts → (InputFile → List ℕ) → Type 0
IsNoTextOf (jobs.Serialise args) texts text = HasNoText texts (text inputs.Footprints) (text inputs.Log) args.limit args.tie
IsNoTextOf _ texts text = ⊥

-- the same of a request, over the texts of its includes and of its inputs
abbrev pub IsNoTextOver : Request → List Pair → (InputFile → List ℕ) → Type 0
IsNoTextOver (requests.Jobs args) includes text = IsNoTextOf args.question (texts_for args.build includes text) text
IsNoTextOver _ includes text = ⊥

-- that, over what its files hold
abbrev pub IsNoTextIn : Request → (List ℕ → Option (List ℕ)) → Type 0
IsNoTextIn request files =
    (includes : List Pair) (text : InputFile → List ℕ) → includes_in files (includes_path request) ≡ Some includes → Hold files (inputs_of request) text
    → IsNoTextOver request includes text

-- all files of a request may be opened, and read
abbrev pub MayAllBeRead : Files → Request → Type 0
MayAllBeRead files request = IncludesMayBeRead files (includes_path request) × InputsMayBeRead files (inputs_of request)

-- an input of a request is reported: its includes come first, and fail; or they do not, and it is the first other input that does
abbrev pub IsReadFailure : Files → Request → InputFile → Type 0
IsReadFailure files request input =
    ((input ≡ inputs.Include) × IncludesMayFail files (includes_path request))
    ⊎ (IncludesMayBeRead files (includes_path request) × IsUnread files (inputs_of request) input)

-- a failure of other inputs and of an answer over their texts: memory is short, one of their files fails, or the answer is no text
abbrev pub IsInputFailure : Files → List InputPath → ((InputFile → List ℕ) → Type 0) → Failure → Type 0
IsInputFailure files inputs IsNoText failure =
    IsShortOr (IsUnread files inputs) failure
    ⊎ ((failure ≡ failures.NotText) × ((text : InputFile → List ℕ) → Hold files.text inputs text → IsNoText text))

-- a failure of a request: memory is short, its files fail, or its answer is no text
abbrev pub IsRequestFailure : Files → Request → Failure → Type 0
IsRequestFailure files request failure =
    IsShortOr (IsReadFailure files request) failure ⊎ ((failure ≡ failures.NotText) × IsNoTextIn request files.text)

-- the files that these words name may be opened, and read
abbrev pub AreInputsRead : List (Bor Text) → Files → Type 0
AreInputsRead words files = (request : Request) × Asks request (asked words) × MayAllBeRead files request

-- what is said to these words: the answer to what they ask, where nothing is wrong with them; or the help or the version, which
-- is neither a refusal nor a no, and has no note
pub record IsSaid (words : List (Bor Text)) (files : Files) (status : Status) (text note : List ℕ) : Type 0 where
  pub usable : IsAnswerable (wrong words)
  pub answer : wrong words ≡ [] → IsAnswerTo words files.text status text note
  pub on_refused : status ≡ statuses.Refused → IsAnswerTo words files.text status text note
  pub on_no : status ≡ statuses.No → IsAnswerTo words files.text status text note
  pub read : wrong words ≡ [] → AreInputsRead words files
  pub noted : note ≢ [] → wrong words ≡ []

-- the failure may come of these words and of these files
abbrev pub IsFailureOf : List (Bor Text) → Files → Failure → Type 0
IsFailureOf words files (failures.Read input) = (request : Request) × Asks request (asked words) × IsReadFailure files request input
IsFailureOf words files failures.Write = Unit {0}
IsFailureOf words files failures.Memory = Unit {0}
IsFailureOf words files failures.NotText = (request : Request) × Asks request (asked words) × IsNoTextIn request files.text
IsFailureOf words files (failures.Usage text) = HasMistake (wrong words)
