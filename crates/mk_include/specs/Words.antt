-- The words of include lines ("Include Lines", and the profile).
use Rattle.std.specs.Prelude.{ℕ, Bool, List, [], ◌∷◌, Option, None, Some, Result, Ok, Err, length, filter, not, nat_le, ◌==◌, if◌then◌else◌}
use Rattle.std.specs.List.{slice_split}
use Rattle.std.specs.Option.{option_map_or}
use Rattle.mk_name.specs.Names.{Name}
use Rattle.mk_name.specs.Reported.{Reported}
use Rattle.mk_name.specs.declared.fault.Kind.{Kind}
use Rattle.mk_name.specs.declared.fault.Kind.TheVariants.{UnknownInclude, IncludeTooDeep, TooManyIncludes}
use Rattle.mk_name.specs.declared.fault.Source.TheVariants.{Makefile}
use Rattle.mk_text.specs.Lexical.{is_blank}
use Rattle.mk_text.specs.Spelling.{word_name}
use Rattle.mk_include.specs.Includes.{Cut, IncludeTexts}

-- the words of a text: what stands between its blanks
abbrev pub words_of : List ℕ → List (List ℕ)
words_of text = filter (λ word. not (length word == 0)) (slice_split is_blank text)

-- a fault of a word: who reads its line says where it is
abbrev pub word_reported : Kind → List Name → Reported
word_reported kind names = record { kind = kind; source = Makefile; place = 0; names = names }

-- so many texts may be taken in
abbrev pub include_limit : ℕ
include_limit = 1000

-- a text of this name, where so many more may open inside one another, behind so many that were taken in
abbrev pub opened : ℕ → ℕ → Name → Cut → Result (Option (Name × Cut)) Reported
opened room taken name cut =
    if room == 0 then Err (word_reported IncludeTooDeep (name ∷ []))
    else (if nat_le include_limit taken then Err (word_reported TooManyIncludes []) else Ok (Some (name, cut)))

-- the text of a name: a hyphen passes over one that no text has
abbrev pub text_named : IncludeTexts → Bool → ℕ → ℕ → Name → Result (Option (Name × Cut)) Reported
text_named texts hyphen room taken name =
    option_map_or (opened room taken name) (texts name) (if hyphen then Ok None else Err (word_reported UnknownInclude (name ∷ [])))

-- the same of a word's name, or of its fault
abbrev pub text_of_name : IncludeTexts → Bool → ℕ → ℕ → Result Name Reported → Result (Option (Name × Cut)) Reported
text_of_name texts hyphen room taken (Err fault) = Err fault
text_of_name texts hyphen room taken (Ok name) = text_named texts hyphen room taken name

-- the text that a word names, nothing, or the word's own fault
abbrev pub word_text : List ℕ → IncludeTexts → Bool → ℕ → ℕ → List ℕ → Result (Option (Name × Cut)) Reported
word_text root texts hyphen room taken word = text_of_name texts hyphen room taken (word_name root word)
