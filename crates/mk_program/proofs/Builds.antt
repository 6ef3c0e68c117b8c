-- Lemmas on a build that was read.
use Rattle.std.proofs.Common.{◌≡◌, ◌∙◌, ℕ, Bool, List, Result, IfErr, IfOk, ap, inl, inr, subst, sym}
use Rattle.std.proofs.lemmas.Result.{IfOk-weaker}
use Rattle.mk_race.specs.Parts.{IsReadFrom}
use Rattle.mk_race.specs.Stages.{Texts}
use Rattle.mk_read.specs.declared.input.Build.{Build}
use Rattle.mk_program.specs.Answers.{IsJobAnswer, IsNoTextOf, base_of, texts_for}
use Rattle.mk_program.specs.Noting.{SaysNoting}
use Rattle.mk_program.specs.OrderText.{IsUnreported}
use Rattle.mk_program.specs.declared.noting.Reply.{Reply}
use Rattle.mk_program.specs.declared.statuses.Status.{Status}
use Rattle.mk_program.proofs.Answering.{listed_from, pairs, texts_are, words}
use Rattle.mk_files.specs.Builds.{AreFoundBelow, IsListedBelow, other_text}
use Rattle.mk_files.specs.Includes.{Pair}
use Rattle.mk_files.specs.declared.failures.Failure.{Failure}
use Rattle.mk_files.proofs.Reported.{err_more}
use Rattle.mk_request.specs.Requests.{other_input}
use Rattle.mk_request.specs.declared.inputs.InputFile.{InputFile}
use Rattle.mk_request.specs.declared.inputs.InputFile.TheVariants as inputs
use Rattle.mk_request.specs.declared.requests.BuildArgs.{BuildArgs}
use Rattle.mk_request.specs.declared.requests.JobQuestion.{JobQuestion}

-- what was read as these texts say was read from them
pub is_read_from : (build : Build) (args : BuildArgs) (includes : List Pair) (text : InputFile → List ℕ)
    → build.input.root.now ≡ args.root.now → words build.input.operands.now ≡ words args.operands.items
    → build.input.base.now ≡ base_of args (text inputs.Base) → build.input.makefile.now ≡ text inputs.Makefile
    → pairs build.input.includes.now ≡ includes → IsListedBelow args.root.now text build.listing
    → AreFoundBelow args.root.now text build.footprints → IsReadFrom build (texts_for args includes text) (text inputs.Footprints)
is_read_from build args includes text root operands base makefile given listing found = record {
  texts_are = texts_are build.input args includes text root operands base makefile given;
  listing = listed_from args includes text build.listing listing;
  footprints = found;
}

module _ (build : Build) (question asked : JobQuestion) (is : question ≡ asked) (strict : Bool) (other : List ℕ) where
  -- a reply is the answer to the question of all texts from which the build was read
  abbrev pub Answers : Reply → Type 0
  Answers reply = (texts : Texts) (text : InputFile → List ℕ) → IsReadFrom build texts (text inputs.Footprints)
      → other ≡ other_text (other_input question) text
      → IsJobAnswer question strict texts text reply.answer.status reply.answer.text.items reply.note.items

  -- the further input of the question that it is has this text
  other_is : (text : InputFile → List ℕ) → other ≡ other_text (other_input question) text → other ≡ other_text (other_input asked) text
  other_is text same = same ∙ ap (λ (q : JobQuestion). other_text (other_input q) text) is

  -- the answer to the question that it is
  pub own_reply : (Says : Texts → List ℕ → List ℕ → Status → List ℕ → Type 0)
      → ((texts : Texts) (text : InputFile → List ℕ) (status : Status) (answer note : List ℕ)
      → SaysNoting strict texts (text inputs.Footprints) (Says texts (text inputs.Footprints) (other_text (other_input asked) text)) status answer note
      → IsJobAnswer asked strict texts text status answer note)
      → (reply : Reply) → ((texts : Texts) (lines : List ℕ) → IsReadFrom build texts lines
      → SaysNoting strict texts lines (Says texts lines other) reply.answer.status reply.answer.text.items reply.note.items) → Answers reply
  own_reply Says more reply over = λ texts text from same.
      subst (λ (q : JobQuestion). IsJobAnswer q strict texts text reply.answer.status reply.answer.text.items reply.note.items) (sym is)
      (more texts text reply.answer.status reply.answer.text.items reply.note.items
      (subst (λ (o : List ℕ). SaysNoting strict texts (text inputs.Footprints) (Says texts (text inputs.Footprints) o)
      reply.answer.status reply.answer.text.items reply.note.items) (other_is text same) (over texts (text inputs.Footprints) from)))

  pub own_answer : (result : Result Reply Failure) (Says : Texts → List ℕ → List ℕ → Status → List ℕ → Type 0)
      → ((texts : Texts) (text : InputFile → List ℕ) (status : Status) (answer note : List ℕ)
      → SaysNoting strict texts (text inputs.Footprints) (Says texts (text inputs.Footprints) (other_text (other_input asked) text)) status answer note
      → IsJobAnswer asked strict texts text status answer note)
      → IfOk result (λ reply. (texts : Texts) (lines : List ℕ) → IsReadFrom build texts lines
      → SaysNoting strict texts lines (Says texts lines other) reply.answer.status reply.answer.text.items reply.note.items)
      → IfOk result Answers
  own_answer result Says more said = IfOk-weaker result _ _ (own_reply Says more) said

  -- a failure of the question that it is
  pub no_text_of : (result : Result Reply Failure) (No : Texts → List ℕ → List ℕ → Type 0)
      → ((texts : Texts) (text : InputFile → List ℕ) → No texts (text inputs.Footprints) (other_text (other_input asked) text) → IsNoTextOf asked texts text)
      → IfErr result (IsUnreported ((texts : Texts) (lines : List ℕ) → IsReadFrom build texts lines → No texts lines other))
      → IfErr result (IsUnreported ((texts : Texts) (text : InputFile → List ℕ) → IsReadFrom build texts (text inputs.Footprints)
      → other ≡ other_text (other_input question) text → IsNoTextOf question texts text))
  no_text_of result No more fails = err_more _ _ result (λ failure failed. elim failed [
    | inl memory ↦ inl memory
    | inr no_text ↦ inr (
      no_text.0,
      λ texts text from same. subst (λ (q : JobQuestion). IsNoTextOf q texts text) (sym is)
          (more texts text (subst (λ (o : List ℕ). No texts (text inputs.Footprints) o) (other_is text same)
          (no_text.1 texts (text inputs.Footprints) from))),
    )
  ]) fails
