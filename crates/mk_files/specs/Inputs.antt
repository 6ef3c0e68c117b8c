-- What is read from the files of a build's inputs, and which input fails.
use Rattle.std.specs.Prelude.{ℕ, ◌≡◌, ◌≢◌, ◌⊎◌, ◌<◌, Bool, true, false, List, [], ◌∷◌, ◌++◌, Option, Some, length, map}
use Rattle.std.specs.List.{All, HoldsAt}
use Rattle.mk_files.specs.Files.{Files}
use Rattle.mk_files.specs.declared.failures.Failure.{Failure}
use Rattle.mk_files.specs.declared.failures.Failure.TheVariants as failures
use Rattle.mk_request.specs.declared.inputs.InputFile.{InputFile}
use Rattle.mk_request.specs.declared.inputs.InputPath.{InputPath}
use Rattle.mk_files.specs.declared.inputs.InputText.{InputText}

-- the file of each of these inputs holds the input's text
abbrev pub HoldEach : (List ℕ → Option (List ℕ)) → List InputPath → (InputFile → List ℕ) → Type 0
HoldEach files inputs text = All (λ known. files known.path.now ≡ Some (text known.input)) inputs

-- no input of the list is this one
abbrev pub IsLeftOut : List InputPath → InputFile → Type 0
IsLeftOut inputs input = All (λ known. known.input ≢ input) inputs

-- the files hold these texts, and an input that has no file is empty
pub record Hold (files : List ℕ → Option (List ℕ)) (inputs : List InputPath) (text : InputFile → List ℕ) : Type 0 where
  pub each : HoldEach files inputs text
  pub others : (input : InputFile) → IsLeftOut inputs input → text input ≡ []

-- the text of an input among those that were read, which is empty where it is not there
abbrev pub IsTextOf : List InputText → InputFile → List ℕ → Type 0
IsTextOf texts input text =
    ((place : ℕ) × (place < length texts) × HoldsAt (λ known. (known.input ≡ input) × (known.text.items ≡ text)) texts place)
    ⊎ (All (λ known. known.input ≢ input) texts × (text ≡ []))

-- these are the texts that were read
abbrev pub AreTexts : List InputText → (InputFile → List ℕ) → Type 0
AreTexts texts text = (input : InputFile) (found : List ℕ) → IsTextOf texts input found → found ≡ text input

-- an input, and whether a step works with its file, where that is stated
abbrev pub Mark : Type 0
Mark = InputFile × Option Bool

-- the inputs, each with what is stated of the step
abbrev pub marks : (List ℕ → Option Bool) → List InputPath → List Mark
marks works inputs = map (λ known. (known.input, works known.path.now)) inputs

-- nothing states that the step fails
abbrev pub MayWork : Mark → Type 0
MayWork mark = mark.1 ≢ Some false

-- the input is the first with which the step may fail
pub record IsFirstToFail (all : List Mark) (input : InputFile) : Type 0 where
  pub before : List Mark
  pub works : Option Bool
  pub rest : List Mark
  pub parts : all ≡ before ++ (input, works) ∷ rest
  pub worked : All MayWork before
  pub fails : works ≢ Some true

-- all files of the inputs may be opened, and read
pub record InputsMayBeRead (files : Files) (inputs : List InputPath) : Type 0 where
  pub opened : All MayWork (marks files.opens inputs)
  pub read : All MayWork (marks files.reads inputs)

-- the input is the first that may not be opened; or, where all may be opened, the first that may not be read
abbrev pub IsUnread : Files → List InputPath → InputFile → Type 0
IsUnread files inputs input =
    IsFirstToFail (marks files.opens inputs) input
    ⊎ (All MayWork (marks files.opens inputs) × IsFirstToFail (marks files.reads inputs) input)

-- memory is short, or an input is reported of which this holds
abbrev pub IsShortOr : (InputFile → Type 0) → Failure → Type 0
IsShortOr Is failure = (failure ≡ failures.Memory) ⊎ ((input : InputFile) × (failure ≡ failures.Read input) × Is input)
