-- What the program is asked by its words, as `clap` reads them.
use Rattle.std.specs.Prelude.{ℕ, ◌≡◌, ◌⊎◌, ◌&&◌, ◌||◌, Bool, true, not, List, [], ◌∷◌, map, Option, Some, None, codes, false, is_some, option_map, unwrap_or, if◌then◌else◌}
use Rattle.std.specs.Str.{bytes_eq}
use Rattle.std.specs.Str.Parse.{digits_value, without_leading_plus}
use Rattle.std.specs.Borrow.{Bor}
use Rattle.clap.specs.Kinds.{or_else}
use Rattle.clap.specs.Words.{App, IsAmong, IsUnsignedIn, Kinds, Row, Rule, Text, all_of, fault_of, first_of, new_app, new_rule, subcommand_of, with_rule, with_subcommand}
use Rattle.clap.specs.declared.builder.action.ArgAction.TheVariants.{Append, Set, SetTrue}
use Rattle.clap.specs.declared.builder.value_parser.ValueParser.TheVariants.{Unsigned}
use Rattle.clap.specs.declared.error.kind.ErrorKind.{ErrorKind}
use Rattle.clap.specs.declared.error.kind.ErrorKind.TheVariants.{ArgumentConflict, DisplayHelp, DisplayVersion, MissingRequiredArgument}
use Rattle.mk_request.specs.declared.requests.BuildArgs.{BuildArgs}
use Rattle.mk_request.specs.declared.requests.JobArgs.{JobArgs}
use Rattle.mk_request.specs.declared.requests.JobQuestion.{JobQuestion}
use Rattle.mk_request.specs.declared.requests.JobQuestion.TheVariants as jobs
use Rattle.mk_request.specs.declared.requests.LogArgs.{LogArgs}
use Rattle.mk_request.specs.declared.requests.Request.{Request}
use Rattle.mk_request.specs.declared.requests.Request.TheVariants as requests
use Rattle.mk_request.specs.declared.requests.TaskArgs.{TaskArgs}
use Rattle.mk_request.specs.declared.requests.TaskQuestion.{TaskQuestion}
use Rattle.mk_request.specs.declared.requests.TaskQuestion.TheVariants as questions

-- an option with one value, which must be given or may be left out
abbrev pub option : Bool → Text → Rule
option required id = record (new_rule id) { long = Some id; action = Some Set; value_names = 1; required = required }

-- an option without a value
abbrev pub flag : Text → Rule
flag id = record (new_rule id) { long = Some id; action = Some SetTrue }

-- the operands: any number of words
abbrev pub operands : Rule
operands = record (new_rule (codes "operands")) { action = Some Append; value_names = 1 }

-- a command with the options and operands of a build, whose makefile and whose listing must be given or may be left out
abbrev pub with_build : Bool → Bool → App → App
with_build makefile listing app =
    with_rule (with_rule (with_rule (with_rule (with_rule (with_rule (with_rule (with_rule app
    (option makefile (codes "makefile"))) (option listing (codes "listing"))) (option true (codes "root"))) (option false (codes "base")))
    (flag (codes "posix-base"))) (option false (codes "includes"))) (flag (codes "quiet"))) operands

-- a command with those of a build and its footprints, whose files and whose listing must be given or may be left out
abbrev pub with_jobs : Bool → Bool → App → App
with_jobs files listing app =
    with_rule (with_rule (with_build files listing app) (option files (codes "footprints"))) (flag (codes "strict"))

-- a command with those of a build and of tasks, whose listing must be given or may be left out
abbrev pub with_tasks : Bool → App → App
with_tasks listing app = with_rule (with_jobs false listing app) (option false (codes "tasks"))

abbrev pub order_app : App
order_app = with_build true true (new_app (codes "order"))

abbrev pub check_app : App
check_app = with_rule (with_rule (with_tasks false (new_app (codes "check"))) (flag (codes "print-proof"))) (flag (codes "short"))

abbrev pub verify_app : App
verify_app = with_rule (with_rule (with_tasks false (new_app (codes "verify"))) (option true (codes "proof"))) (flag (codes "short"))

-- how many recipes may run at once
abbrev pub limit : Rule
limit = record (option false (codes "limit")) { parser = Some (Unsigned 1 65535) }

-- a flag: files of equal times count as newer
abbrev pub tie : Rule
tie = record (new_rule (codes "tie")) { long = Some (codes "tie"); action = Some SetTrue }

-- a command with the options and operands of those that read a log
abbrev pub with_log : App → App
with_log app = with_rule (with_rule (with_rule (with_jobs true true app) (option true (codes "log"))) limit) tie

abbrev pub replay_app : App
replay_app = with_log (new_app (codes "replay"))

abbrev pub serialise_app : App
serialise_app = with_log (new_app (codes "serialise"))

abbrev pub list_app : App
list_app = with_tasks false (new_app (codes "list"))

abbrev pub fix_app : App
fix_app = with_rule (with_tasks false (new_app (codes "fix"))) (flag (codes "print-proof"))

abbrev pub missing_app : App
missing_app = with_tasks true (new_app (codes "missing"))

-- the program without its subcommands: it must be given one, or be asked for its version
abbrev pub top_app : App
top_app = record {
  top = record (new_app (codes "race")).top { has_version = true; disable_help_subcommand = true; subcommand_required = true };
  subs = [];
}

-- the program with its subcommands
abbrev pub race_app : App
race_app =
    with_subcommand (with_subcommand (with_subcommand (with_subcommand (with_subcommand (with_subcommand (with_subcommand (with_subcommand top_app
    order_app.top) check_app.top) verify_app.top) replay_app.top) serialise_app.top) list_app.top) fix_app.top) missing_app.top

-- what these words ask: the subcommand that they name, with the values that were found
abbrev pub asked : List (Bor Text) → Option (Text × List Row)
asked words = subcommand_of race_app (map (λ word. word.now) words)

-- the flag is set
abbrev pub is_true : Option Text → Bool
is_true None = false
is_true (Some text) = bytes_eq text (codes "true")

-- an option has a value, or there is an operand
abbrev pub is_given : Text → List Row → Bool
is_given id rows = is_some (first_of id rows)

-- two base makefiles are given: a file, and the one that the standard lists
abbrev pub has_two_bases : List Row → Bool
has_two_bases rows = is_true (first_of (codes "posix-base") rows) && is_given (codes "base") rows

-- a listing is given to a subcommand that takes none beside tasks
abbrev pub has_other_listing : Text → List Row → Bool
has_other_listing name rows = not (bytes_eq name (codes "missing")) && is_given (codes "listing") rows

-- a file, an operand or a flag of a build is given
abbrev pub has_build : Text → List Row → Bool
has_build name rows =
    is_given (codes "makefile") rows || has_other_listing name rows || is_given (codes "base") rows
    || is_true (first_of (codes "posix-base") rows) || is_given (codes "includes") rows || is_given (codes "footprints") rows
    || is_given (codes "operands") rows || is_true (first_of (codes "strict") rows)

-- tasks are named beside a build
abbrev pub has_both : Text → List Row → Bool
has_both name rows = is_given (codes "tasks") rows && has_build name rows

-- the files are given that a build must have, where its recipes are asked about
abbrev pub has_files : List Row → Bool
has_files rows = is_given (codes "makefile") rows && is_given (codes "listing") rows && is_given (codes "footprints") rows

-- the subcommand of this name asks about recipes, and has neither tasks nor those files
abbrev pub lacks_files : Text → List Row → Bool
lacks_files name rows = not (bytes_eq name (codes "order")) && not (is_given (codes "tasks") rows) && not (has_files rows)

-- what is wrong with the values that were found: two bases; tasks beside a build; or too little of a build without tasks
abbrev pub value_kinds : Option (Text × List Row) → Kinds
value_kinds None = []
value_kinds (Some found) =
    if has_two_bases found.1 then ArgumentConflict ∷ []
    else (if has_both found.0 found.1 then ArgumentConflict ∷ []
    else (if lacks_files found.0 found.1 then MissingRequiredArgument ∷ [] else []))

-- what is wrong with these words: what `clap` finds, and where that is nothing, what is wrong with their values; that they call
-- for help or the version is reported too
abbrev pub wrong : List (Bor Text) → Kinds
wrong words = or_else (fault_of race_app (map (λ word. word.now) words)) (value_kinds (asked words))

-- the value of an option, which is empty where there is none
abbrev pub value_of : Text → List Row → Text
value_of id rows = unwrap_or (first_of id rows) []

-- the operands, in their order
abbrev pub operands_of : List Row → List Text
operands_of rows = unwrap_or (all_of (codes "operands") rows) []

-- the build has the values that were found
pub record HasValues (build : BuildArgs) (rows : List Row) : Type 0 where
  pub includes : option_map (λ word. word.now) build.includes ≡ first_of (codes "includes") rows
  pub base : option_map (λ word. word.now) build.base ≡ first_of (codes "base") rows
  pub posix_base : build.posix_base ≡ is_true (first_of (codes "posix-base") rows)
  pub makefile : build.makefile.now ≡ value_of (codes "makefile") rows
  pub listing : build.listing.now ≡ value_of (codes "listing") rows
  pub root : build.root.now ≡ value_of (codes "root") rows
  pub operands : map (λ word. word.now) build.operands.items ≡ operands_of rows
  pub quiet : build.quiet ≡ is_true (first_of (codes "quiet") rows)

-- the limit that a value writes, a number from 1 to 65,535; without a value it is 1
abbrev pub IsLimit : Option Text → ℕ → Type 0
IsLimit None limit = limit ≡ 1
IsLimit (Some text) limit = IsUnsignedIn 1 65535 text × (limit ≡ digits_value 10 (without_leading_plus text))

-- no tasks are named
abbrev pub HasNoTasks : List Row → Type 0
HasNoTasks rows = first_of (codes "tasks") rows ≡ None

-- the log has the values that were found
pub record HasLog (args : LogArgs) (rows : List Row) : Type 0 where
  pub log : args.log.now ≡ value_of (codes "log") rows
  pub limit : (limit : ℕ) → IsLimit (first_of (codes "limit") rows) limit → args.limit ≡ limit
  pub tie : args.tie ≡ is_true (first_of (codes "tie") rows)

-- a short certificate is asked for just where the flag of that is set
abbrev pub IsShortAsked : Bool → List Row → Type 0
IsShortAsked short rows = short ≡ is_true (first_of (codes "short") rows)

-- the question about jobs is that of the subcommand of this name, with the values that were found; no tasks are named where that
-- subcommand takes some
abbrev pub IsJobQuestion : JobQuestion → Text → List Row → Type 0
IsJobQuestion (jobs.Check print_proof short) name rows =
    (name ≡ codes "check") × HasNoTasks rows × (print_proof ≡ is_true (first_of (codes "print-proof") rows)) × IsShortAsked short rows
IsJobQuestion (jobs.Verify proof short) name rows =
    (name ≡ codes "verify") × HasNoTasks rows × (proof.now ≡ value_of (codes "proof") rows) × IsShortAsked short rows
IsJobQuestion (jobs.Replay args) name rows = (name ≡ codes "replay") × HasLog args rows
IsJobQuestion (jobs.Serialise args) name rows = (name ≡ codes "serialise") × HasLog args rows
IsJobQuestion jobs.List name rows = (name ≡ codes "list") × HasNoTasks rows
IsJobQuestion (jobs.Fix print_proof) name rows =
    (name ≡ codes "fix") × HasNoTasks rows × (print_proof ≡ is_true (first_of (codes "print-proof") rows))
IsJobQuestion jobs.Missing name rows = (name ≡ codes "missing") × HasNoTasks rows

-- the build and its footprints have the values that were found, and the question is that of the subcommand of this name
pub record HasJobs (args : JobArgs) (name : Text) (rows : List Row) : Type 0 where
  pub build : HasValues args.build rows
  pub footprints : args.footprints.now ≡ value_of (codes "footprints") rows
  pub strict : args.strict ≡ is_true (first_of (codes "strict") rows)
  pub question : IsJobQuestion args.question name rows

-- the question about tasks is that of the subcommand of this name, with the values that were found
abbrev pub IsQuestion : TaskQuestion → Text → List Row → Type 0
IsQuestion (questions.Check print_proof short) name rows =
    (name ≡ codes "check") × (print_proof ≡ is_true (first_of (codes "print-proof") rows)) × IsShortAsked short rows
IsQuestion (questions.Verify proof short) name rows =
    (name ≡ codes "verify") × (proof.now ≡ value_of (codes "proof") rows) × IsShortAsked short rows
IsQuestion questions.List name rows = name ≡ codes "list"
IsQuestion (questions.Fix print_proof) name rows =
    (name ≡ codes "fix") × (print_proof ≡ is_true (first_of (codes "print-proof") rows))
IsQuestion (questions.Missing listing) name rows = (name ≡ codes "missing") × (listing.now ≡ value_of (codes "listing") rows)

-- the tasks have the values that were found, and the question is that of the subcommand of this name
pub record HasTasks (args : TaskArgs) (name : Text) (rows : List Row) : Type 0 where
  pub tasks : Some args.tasks.now ≡ first_of (codes "tasks") rows
  pub root : args.root.now ≡ value_of (codes "root") rows
  pub quiet : args.quiet ≡ is_true (first_of (codes "quiet") rows)
  pub question : IsQuestion args.question name rows

-- the request is for the subcommand of this name, with the values that were found
abbrev pub IsFor : Request → Text → List Row → Type 0
IsFor (requests.Order build) name rows = (name ≡ codes "order") × HasValues build rows
IsFor (requests.Jobs args) name rows = HasJobs args name rows
IsFor (requests.Tasks args) name rows = HasTasks args name rows

-- the request is for the subcommand that was found
abbrev pub Asks : Request → Option (Text × List Row) → Type 0
Asks request None = ⊥
Asks request (Some found) = IsFor request found.0 found.1

-- the words call for help or the version, and are no mistake
abbrev pub IsCall : ErrorKind → Type 0
IsCall kind = (kind ≡ DisplayHelp) ⊎ (kind ≡ DisplayVersion)

-- the words can be answered: nothing is wrong with them, or they call for help or the version
abbrev pub IsAnswerable : Kinds → Type 0
IsAnswerable wrong = (wrong ≡ []) ⊎ ((kind : ErrorKind) × IsCall kind × IsAmong kind wrong)

-- they hold a mistake
abbrev pub HasMistake : Kinds → Type 0
HasMistake wrong = (kind : ErrorKind) × ¬ IsCall kind × IsAmong kind wrong
