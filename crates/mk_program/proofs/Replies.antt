-- Lemmas on replies to questions about the jobs of a build.
use Rattle.std.proofs.Common.{◌≡◌, ◌≢◌, ◌∙◌, List, Option, Result, ap, inl, subst, sym, ℕ}
use Rattle.std.specs.Prelude.{IfErr, IfOk, IfSome}
use Rattle.mk_program.specs.Answers.{IsAnswerOver, IsInputFailure, IsNoTextOver}
use Rattle.mk_program.specs.declared.noting.Reply.{Reply}
use Rattle.mk_files.specs.Builds.{IsJobReadAs}
use Rattle.mk_files.specs.Files.{Files}
use Rattle.mk_files.specs.Includes.{Pair}
use Rattle.mk_files.specs.Inputs.{AreTexts, Hold, IsShortOr, IsUnread}
use Rattle.mk_files.specs.declared.failures.Failure.{Failure}
use Rattle.mk_files.specs.declared.builds.ReadJob.{ReadJob}
use Rattle.mk_files.specs.declared.inputs.InputText.{InputText}
use Rattle.mk_files.proofs.Reported.{err_more}
use Rattle.mk_request.specs.Requests.{inputs_of, job_inputs, other_input}
use Rattle.mk_request.specs.declared.inputs.InputFile.{InputFile}
use Rattle.mk_request.specs.declared.inputs.InputFile.TheVariants as inputs
use Rattle.mk_request.specs.declared.inputs.InputPath.{InputPath}
use Rattle.mk_request.specs.declared.requests.JobArgs.{JobArgs}
use Rattle.mk_request.specs.declared.requests.JobQuestion.{JobQuestion}
use Rattle.mk_request.specs.declared.requests.JobQuestion.TheVariants as jobs
use Rattle.mk_request.specs.declared.requests.Request.{Request}

-- the further input of a question is no base
pub no_base : (question : JobQuestion) → IfSome (other_input question) (λ (known : InputPath). known.input ≢ inputs.Base)
no_base (jobs.Check print_proof short) = tt
no_base (jobs.Verify proof short) = λ (is : ◌≡◌ {A = InputFile} inputs.Proof inputs.Base). cc
no_base (jobs.Replay args) = λ (is : ◌≡◌ {A = InputFile} inputs.Log inputs.Base). cc
no_base (jobs.Serialise args) = λ (is : ◌≡◌ {A = InputFile} inputs.Log inputs.Base). cc
no_base jobs.List = tt
no_base (jobs.Fix print_proof) = tt
no_base jobs.Missing = tt

-- what was read of the inputs of these jobs is what their files hold
pub read_is : (args : JobArgs) (files : List ℕ → Option (List ℕ)) (other : Option InputPath) → other ≡ other_input args.question → (read : ReadJob)
    → ((text : InputFile → List ℕ) → IfSome other (λ (known : InputPath). known.input ≢ inputs.Base)
    → Hold files (job_inputs args.build args.footprints other) text → IsJobReadAs args.build.root.now other text read)
    → (text : InputFile → List ℕ) → Hold files (job_inputs args.build args.footprints (other_input args.question)) text
    → IsJobReadAs args.build.root.now (other_input args.question) text read
read_is args files other is read reads text hold =
    subst (λ (o : Option InputPath). IsJobReadAs args.build.root.now o text read) is
    (reads text (subst (λ (o : Option InputPath). IfSome o (λ (known : InputPath). known.input ≢ inputs.Base)) (sym is) (no_base args.question))
    (subst (λ (o : Option InputPath). Hold files (job_inputs args.build args.footprints o) text) (sym is) hold))

-- a failure to read inputs is one of an answer over them
pub unread_is : {X : Type 0} (files : Files) (paths all : List InputPath) (No : (InputFile → List ℕ) → Type 0) (result : Result X Failure) → paths ≡ all
    → IfErr result (IsShortOr (IsUnread files paths)) → IfErr result (IsInputFailure files all No)
unread_is files paths all No result same fails =
    err_more _ _ result (λ failure unread. inl (subst (λ (l : List InputPath). IsShortOr (IsUnread files l) failure) same unread)) fails

-- what was read of the inputs that are lent are the texts that the files of all inputs hold
pub are_texts : (files : List ℕ → Option (List ℕ)) (paths all : List InputPath) (lent read : List InputText) → paths ≡ all → lent ≡ read
    → ((text : InputFile → List ℕ) → Hold files paths text → AreTexts read text) → (text : InputFile → List ℕ) → Hold files all text → AreTexts lent text
are_texts files paths all lent read alike whole reads text hold =
    subst (λ (l : List InputText). AreTexts l text) (sym whole) (reads text (subst (λ (l : List InputPath). Hold files l text) (sym alike) hold))

module _ (files : Files) (request : Request) (includes : List Pair) (result : Result Reply Failure) (asked : Request) (is : request ≡ asked) where
  -- what is answered over the texts that the files of these inputs hold
  abbrev pub Over : List InputPath → Request → Type 0
  Over paths of = IfOk result (λ reply. (text : InputFile → List ℕ) → Hold files.text paths text
      → IsAnswerOver of includes text reply.answer.status reply.answer.text.items reply.note.items)

  -- the answer to the request that it is
  pub own_answer : (paths : List InputPath) → paths ≡ inputs_of asked → Over paths asked → Over (inputs_of request) request
  own_answer paths same over =
      subst (λ (r : Request). Over (inputs_of r) r) (sym is) (subst (λ (l : List InputPath). Over l asked) same over)

  -- and so are failures
  pub own_failure : (paths : List InputPath) → paths ≡ inputs_of asked → IfErr result (IsShortOr (IsUnread files paths))
      → IfErr result (IsInputFailure files (inputs_of request) (IsNoTextOver request includes))
  own_failure paths same fails =
      unread_is files paths (inputs_of request) (IsNoTextOver request includes) result (same ∙ sym (ap inputs_of is)) fails
