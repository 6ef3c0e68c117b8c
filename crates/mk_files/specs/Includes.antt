-- The texts that the file of includes hands in, and which of its files fail.
use Rattle.std.specs.Prelude.{◌≡◌, ◌≢◌, ◌⊎◌, ℕ, true, false, List, [], ◌∷◌, ◌++◌, Option, None, Some, length, map, ◌==◌, option_map, if◌then◌else◌}
use Rattle.std.specs.List.{All, Contains}
use Rattle.std.specs.Option.{option_and_then}
use Rattle.std.specs.Str.{IsUtf8}
use Rattle.mk_text.specs.Lexical.{physical_lines}
use Rattle.mk_files.specs.Files.{Files}
use Rattle.mk_files.specs.declared.failures.Failure.{Failure}
use Rattle.mk_files.specs.declared.failures.Failure.TheVariants as failures
use Rattle.mk_request.specs.declared.inputs.InputFile.TheVariants as inputs
use Rattle.mk_files.specs.declared.includes.IncludeText.{IncludeText}

-- a path, and the text of its file
abbrev pub Pair : Type 0
Pair = List ℕ × List ℕ

-- what a line hands in: the text of the file that it names, and nothing where it is empty
abbrev pub line_pairs : (List ℕ → Option (List ℕ)) → List ℕ → Option (List Pair)
line_pairs files line = if length line == 0 then Some [] else option_map (λ text. (line, text) ∷ []) (files line)

-- what two parts hand in
abbrev pub both : Option (List Pair) → Option (List Pair) → Option (List Pair)
both None more = None
both (Some pairs) None = None
both (Some pairs) (Some more) = Some (pairs ++ more)

-- what lines hand in, in their order, where each file that they name states its bytes
abbrev pub pairs_of : (List ℕ → Option (List ℕ)) → List (List ℕ) → Option (List Pair)
pairs_of files [] = Some []
pairs_of files (line ∷ lines) = both (line_pairs files line) (pairs_of files lines)

-- what the file of this path hands in, one path a line; without a path nothing is handed in
abbrev pub includes_in : (List ℕ → Option (List ℕ)) → Option (List ℕ) → Option (List Pair)
includes_in files None = Some []
includes_in files (Some path) = option_and_then (λ listed. pairs_of files (physical_lines listed)) (files path)

-- the texts as pairs
abbrev pub shown : List IncludeText → List Pair
shown texts = map (λ known. (known.path.items, known.text.items)) texts

-- the file of this path may be opened, and read
abbrev pub MayBeRead : Files → List ℕ → Type 0
MayBeRead files path = (files.opens path ≢ Some false) × (files.reads path ≢ Some false)

-- it may not be opened, or not be read
abbrev pub MayFail : Files → List ℕ → Type 0
MayFail files path = (files.opens path ≢ Some true) ⊎ (files.reads path ≢ Some true)

-- a line names nothing, or a file that may be read
abbrev pub LineMayBeRead : Files → List ℕ → Type 0
LineMayBeRead files line = (length line ≡ 0) ⊎ (IsUtf8 line × MayBeRead files line)

-- a line is no text, or names a file that may fail
abbrev pub LineMayFail : Files → List ℕ → Type 0
LineMayFail files line = (length line ≢ 0) × ((¬ IsUtf8 line) ⊎ MayFail files line)

-- the file of this path and all that its lines name may be read; without a path there is none
abbrev pub IncludesMayBeRead : Files → Option (List ℕ) → Type 0
IncludesMayBeRead files None = Unit {0}
IncludesMayBeRead files (Some path) =
    MayBeRead files path × ((listed : List ℕ) → files.text path ≡ Some listed → All (LineMayBeRead files) (physical_lines listed))

-- that file may fail, or one of its lines
abbrev pub IncludesMayFail : Files → Option (List ℕ) → Type 0
IncludesMayFail files None = ⊥
IncludesMayFail files (Some path) =
    MayFail files path
    ⊎ ((listed : List ℕ) → files.text path ≡ Some listed → (line : List ℕ) × Contains (physical_lines listed) line × LineMayFail files line)

-- memory is short, or `include` is reported, and then this holds
abbrev pub IsFailure : Type 0 → Failure → Type 0
IsFailure Why failure = (failure ≡ failures.Memory) ⊎ ((failure ≡ failures.Read inputs.Include) × Why)
