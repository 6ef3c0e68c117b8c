-- The names that the words of a text spell ("Target Rules", and the profile).
use Rattle.std.specs.Prelude.{ℕ, not, List, [], ◌∷◌, Option, Result, Ok, Err, Vec, map, find}
use Rattle.std.specs.Global.{Global}
use Rattle.std.specs.Option.{option_map_or}
use Rattle.std.specs.Result.{result_map_both}
use Rattle.mk_name.specs.Gives.{Answers, Gives}
use Rattle.mk_name.specs.Names.{Name}
use Rattle.mk_name.specs.Reported.{Reported}
use Rattle.mk_name.specs.declared.fault.Halt.{Halt}
use Rattle.mk_name.specs.declared.fault.Source.TheVariants.{Makefile}
use Rattle.mk_text.specs.Spelling.{bad_name, is_word, plain_name}
use Rattle.mk_include.specs.Words.{words_of}

-- the first word that spells no name
abbrev pub refused_word : List (List ℕ) → Option (List ℕ)
refused_word words = find (λ word. not (is_word word)) words

-- the names that words spell below this root, or the fault of the first that spells none
abbrev pub spelled_names : List ℕ → List (List ℕ) → Result (List Name) Reported
spelled_names root words =
    option_map_or (λ word. Err (bad_name Makefile (word ∷ []))) (refused_word words) (Ok (map (plain_name root) words))

-- the names in a text
abbrev pub names_in : List ℕ → List ℕ → Result (List Name) Reported
names_in root text = spelled_names root (words_of text)

-- a call gives just these names or this fault, unless memory ran out
abbrev pub GivesNames : Result (Vec Name Global) Halt → Result (List Name) Reported → Type 0
GivesNames result answer = Gives (result_map_both (λ names. names.items) (λ halt. halt) result) answer

-- a call gives names or a fault that is such an answer, unless memory ran out
abbrev pub AnswersNames : Result (Vec Name Global) Halt → (Result (List Name) Reported → Type 0) → Type 0
AnswersNames result answers = Answers (result_map_both (λ names. names.items) (λ halt. halt) result) answers
