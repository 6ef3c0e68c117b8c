use Rattle.std.proofs.Common.{◌≡◌, ◌∙◌, List, ℕ, Option, Some, inl, inr, ap, map, refl, subst, sym}
use Rattle.std.proofs.lemmas.Result.{IfOk-weaker, err_from_is_err_and}
use Rattle.std.specs.Borrow.{Bor}
use Rattle.mk_program.specs.Answers.{IsAnswerOver, IsNoTextOver}
use Rattle.mk_files.specs.Files.{Files}
use Rattle.mk_files.specs.Includes.{IncludesMayBeRead, Pair, includes_in, shown}
use Rattle.mk_files.specs.Inputs.{Hold, InputsMayBeRead}
use Rattle.mk_request.specs.Requests.{inputs_of}
use Rattle.mk_request.specs.declared.inputs.InputFile.{InputFile}
use Rattle.mk_request.specs.declared.inputs.InputPath.{InputPath}
use Rattle.mk_program.proofs.Failing.{of_includes, of_inputs}
use Rattle.mk_files.proofs.Reported.{err_more, ok_more}
use Rattle.mk_program.proofs.answers.noted_answer.Goals as goal

abbrev pairs : List (Bor (List ℕ) × Bor (List ℕ)) → List Pair
pairs = map (λ (pair : Bor (List ℕ) × Bor (List ℕ)). (pair.0.now, pair.1.now))

-- what holds over the includes that were read holds over what the files hold
over_files : (files now : Files) → now ≡ files → (given path : Option (List ℕ)) → given ≡ path → (texts : List Pair)
    → ((all : List Pair) → includes_in files.text given ≡ Some all → texts ≡ all) → (inputs : List InputPath)
    → (Over : List Pair → (InputFile → List ℕ) → Type 0) → ((text : InputFile → List ℕ) → Hold now.text inputs text → Over texts text)
    → (includes : List Pair) (text : InputFile → List ℕ) → includes_in files.text path ≡ Some includes → Hold files.text inputs text → Over includes text
over_files files now same given path is texts reported inputs Over over includes text named hold =
    subst (λ (all : List Pair). Over all text) (reported includes (ap (includes_in files.text) is ∙ named))
    (over text (subst (λ (f : Files). Hold f.text inputs text) (sym same) hold))

pub returns-in_err-included-clause-failure : goal.returns-in_err-included-clause-failure
returns-in_err-included-clause-failure g c =
    let p = err_from_is_err_and c.from_residual.result c.from_residual.ensures.1 in
    rw (p.1, p.2) (of_includes (g.P.Opener.files c.args.opener.now) c.args.request.now _ _ c.includes_path.ensures c.in_err-included.ensures.failure)

pub returns-clause-read : goal.returns-clause-read
returns-clause-read g c =
    ok_more _ _ c.answer_with.result (λ read. (
      subst (IncludesMayBeRead (g.P.Opener.files c.args.opener.now)) c.includes_path.ensures c.in_ok-included.ensures.read,
      subst (λ (f : Files). InputsMayBeRead f (inputs_of c.args.request.now)) c.read_includes.ensures.same read,
    )) c.answer_with.ensures.read

pub returns-clause-answer : goal.returns-clause-answer
returns-clause-answer g c = IfOk-weaker c.answer_with.result _ _ (λ reply over.
    over_files (g.P.Opener.files c.args.opener.now) (g.P.Opener.files c.read_includes.new.opener) c.read_includes.ensures.same _ _ c.includes_path.ensures
    (pairs c.as_slice-2.result.now)
    (λ all is. ap pairs c.as_slice-2.ensures.value ∙ c.in_ok-pairs.ensures ∙ ap shown c.as_slice.ensures.value ∙ c.in_ok-included.ensures.reported all is)
    (inputs_of c.args.request.now)
    (λ all text. IsAnswerOver c.args.request.now all text reply.answer.status reply.answer.text.items reply.note.items) over) c.answer_with.ensures.answer

pub returns-clause-failure : goal.returns-clause-failure
returns-clause-failure g c = err_more _ _ c.answer_with.result (λ failure fails. elim fails [
  | inl unread ↦ of_inputs (g.P.Opener.files c.args.opener.now) (g.P.Opener.files c.read_includes.new.opener) c.args.request.now
      (inputs_of c.args.request.now) failure c.read_includes.ensures.same refl
      (subst (IncludesMayBeRead (g.P.Opener.files c.args.opener.now)) c.includes_path.ensures c.in_ok-included.ensures.read) unread
  | inr no_text ↦ inr (
    no_text.0,
    over_files (g.P.Opener.files c.args.opener.now) (g.P.Opener.files c.read_includes.new.opener) c.read_includes.ensures.same _ _ c.includes_path.ensures
        (pairs c.as_slice-2.result.now)
        (λ all is. ap pairs c.as_slice-2.ensures.value ∙ c.in_ok-pairs.ensures ∙ ap shown c.as_slice.ensures.value ∙ c.in_ok-included.ensures.reported all is)
        (inputs_of c.args.request.now) (IsNoTextOver c.args.request.now) no_text.1,
  )
]) c.answer_with.ensures.failure
