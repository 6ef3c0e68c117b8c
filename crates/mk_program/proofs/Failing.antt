-- Lemmas on failures: of the inputs, and of the words.
use Rattle.std.proofs.Common.{Result, Ok, Err, IfOk, OnOk, IsErrOf, ◌≡◌, ◌≢◌, ◌⊎◌, ◌∙◌, inl, inr, List, [], Option, ℕ, String, Global, refl, subst, sym}
use Rattle.std.specs.Borrow.{Bor}
use Rattle.clap.specs.Words.{HasKind, IsAmong, Kinds, kind_of}
use Rattle.clap.specs.declared.error.Error.{Error}
use Rattle.clap.specs.declared.error.kind.ErrorKind.{ErrorKind}
use Rattle.clap.specs.declared.error.kind.ErrorKind.TheVariants.{OutOfMemory}
use Rattle.mk_program.specs.Answers.{IsRequestAnswer, IsFailureOf, IsRequestFailure, IsSaid, MayAllBeRead}
use Rattle.mk_request.specs.CommandLine.{Asks, IsCall, asked, wrong}
use Rattle.mk_files.specs.Files.{Files}
use Rattle.mk_files.specs.Includes.{IncludesMayBeRead, IncludesMayFail, IsFailure}
use Rattle.mk_files.specs.Inputs.{IsShortOr, IsUnread}
use Rattle.mk_request.specs.Requests.{includes_path, inputs_of}
use Rattle.mk_files.specs.declared.failures.Failure.{Failure}
use Rattle.mk_files.specs.declared.failures.Failure.TheVariants.{Memory, NotText, Read, Usage, Write}
use Rattle.mk_request.specs.declared.inputs.InputFile.TheVariants.{Include}
use Rattle.mk_request.specs.declared.inputs.InputPath.{InputPath}
use Rattle.mk_request.specs.declared.requests.Request.{Request}
use Rattle.mk_program.specs.declared.statuses.Status.{Status}
use Rattle.mk_program.specs.declared.statuses.Status.TheVariants.{Done, No, Refused}

-- a failure to read the includes is one of the request
pub of_includes : (files : Files) (request : Request) (given : Option (List ℕ)) (failure : Failure) → given ≡ includes_path request
    → IsFailure (IncludesMayFail files given) failure → IsRequestFailure files request failure
of_includes files request given failure same (inl memory) = inl (inl memory)
of_includes files request given failure same (inr read) = inl (inr (Include, read.0, inl (refl, subst (IncludesMayFail files) same read.1)))

-- and so is one to read the inputs, where the includes were read
pub of_inputs : (files now : Files) (request : Request) (given : List InputPath) (failure : Failure) → now ≡ files → given ≡ inputs_of request
    → IncludesMayBeRead files (includes_path request) → IsShortOr (IsUnread now given) failure → IsRequestFailure files request failure
of_inputs files now request given failure same all read (inl memory) = inl (inl memory)
of_inputs files now request given failure same all read (inr unread) =
    inl (inr (
      unread.0,
      unread.1,
      inr (
        read,
        subst (λ (f : Files). IsUnread f (inputs_of request) unread.0) same
            (subst (λ (l : List InputPath). IsUnread now l unread.0) all unread.2),
      ),
    ))

-- a failure of what the words ask for may come of the words
pub input_failure : (words : List (Bor (List ℕ))) (files : Files) (request : Request) (failure : Failure) → Asks request (asked words)
    → IsRequestFailure files request failure → IsFailureOf words files failure
input_failure words files request failure asks (inl (inl memory)) = rw memory tt
input_failure words files request failure asks (inl (inr read)) = rw read.1 (request, asks, read.2)
input_failure words files request failure asks (inr no_text) = rw no_text.0 (request, asks, no_text.1)

-- and is none of the output
pub not_written : (files : Files) (request : Request) (failure : Failure) → IsRequestFailure files request failure → failure ≢ Write
not_written files request failure (inl (inl memory)) = λ is. cc
not_written files request failure (inl (inr read)) = λ is. let e : failure ≡ Read read.0 = read.1 in cc
not_written files request failure (inr no_text) = λ is. let e : failure ≡ NotText = no_text.0 in cc

-- why the words get no answer but the help or the version
abbrev pub IsRefusal : ErrorKind → Failure → Type 0
IsRefusal kind failure = (failure ≡ Memory) ⊎ ((text : String Global) × (failure ≡ Usage text) × ¬ IsCall kind × (kind ≢ OutOfMemory))

-- a mistake of the words may come of them
pub usage_failure : (words : List (Bor (List ℕ))) (files : Files) (error : Error) (failure : Failure) → HasKind (wrong words) error
    → IsRefusal (kind_of error) failure → IsFailureOf words files failure
usage_failure words files error failure kinds (inl memory) = rw memory tt
usage_failure words files error failure (inl memory) (inr mistake) = absurd (mistake.3 memory)
usage_failure words files error failure (inr among) (inr mistake) = rw mistake.1 (kind_of error, mistake.2, among)

pub not_written_either : (kind : ErrorKind) (failure : Failure) → IsRefusal kind failure → failure ≢ Write
not_written_either kind failure (inl memory) = λ is. cc
not_written_either kind failure (inr mistake) = λ is. let text : failure ≡ Usage mistake.0 = mistake.1 in cc

-- what fails gives no value
no_value : {X E : Type 0} (P : X → Type 0) (r : Result X E) (e : E) → IsErrOf r e → IfOk r P
no_value P (Ok x) e fails = cc
no_value P (Err y) e fails = tt

-- the answer to what right words ask is what is said to them
pub answered : (words : List (Bor (List ℕ))) (files : Files) (request : Request) (status : Status) (text note : List ℕ) → Asks request (asked words)
    → wrong words ≡ [] → MayAllBeRead files request → IsRequestAnswer request files.text status text note → IsSaid words files status text note
answered words files request status text note asks right read is = record {
  usable = inl right;
  answer = λ _. (request, asks, is);
  on_refused = λ _. (request, asks, is);
  on_no = λ _. (request, asks, is);
  read = λ _. (request, asks, read);
  noted = λ _. right;
}

-- and so is the help or the version to words that call for it
pub helped : {X E : Type 0} (words : List (Bor (List ℕ))) (files : Files) (error : Error) (r : Result X E) (e : E) (status : X → Status) (text note : X → List ℕ)
    → HasKind (wrong words) error → (kind_of error ≡ OutOfMemory → IsErrOf r e) → IfOk r (λ x. status x ≡ Done) → IfOk r (λ x. note x ≡ [])
    → OnOk r (IsCall (kind_of error)) → IfOk r (λ x. IsSaid words files (status x) (text x) (note x))
helped words files error (Err f) e status text note has fails done none call = tt
helped words files error (Ok x) e status text note (inl memory) fails done none call =
    no_value (λ y. IsSaid words files (status y) (text y) (note y)) (Ok x) e (fails memory)
helped words files error (Ok x) e status text note (inr among) fails done none call =
    let not_right : wrong words ≡ [] → ⊥ = λ right. subst (λ (kinds : Kinds). IsAmong (kind_of error) kinds) right among in
    record {
      usable = inr (kind_of error, call, among);
      answer = λ right. absurd (not_right right);
      on_refused = λ is. absurd (let e : ◌≡◌ {A = Status} Done Refused = sym done ∙ is in cc);
      on_no = λ is. absurd (let e : ◌≡◌ {A = Status} Done No = sym done ∙ is in cc);
      read = λ right. absurd (not_right right);
      noted = λ some. absurd (some none);
    }

-- errors that are the same
pub errors_same : {X E : Type 0} (d e : E) → IsErrOf {T = X} (Err d) e → d ≡ e
errors_same d e is = cc
