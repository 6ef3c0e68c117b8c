-- The texts that include lines may name ("Include Lines", and the profile).
use Rattle.std.specs.Prelude.{ℕ, ◌+◌, Bool, not, List, [], Option, Result, Ok, Err, map}
use Rattle.std.specs.List.{position}
use Rattle.std.specs.Map.{lookup}
use Rattle.std.specs.Option.{option_map_or}
use Rattle.std.specs.Result.{result_map_both}
use Rattle.mk_name.specs.Gives.{Gives}
use Rattle.mk_name.specs.Names.{Name, same_name}
use Rattle.mk_name.specs.Reported.{Reported}
use Rattle.mk_name.specs.declared.fault.Halt.{Halt}
use Rattle.mk_name.specs.declared.fault.Source.TheVariants as sources
use Rattle.mk_lines.specs.LogicalLine.{LogicalLine}
use Rattle.mk_lines.specs.LogicalLines.{logical_lines}
use Rattle.mk_text.specs.Spelling.{bad_name, is_path, plain_name}

-- what a text is cut into: its lines, or its first fault
abbrev pub Cut : Type 0
Cut = Result (List LogicalLine) Reported

-- the same, where a fault is reported in the text of this name
abbrev pub reported_in : Name → Cut → Cut
reported_in name (Ok lines) = Ok lines
reported_in name (Err fault) = Err (record fault { source = sources.Include name })

-- names, each with what its text is cut into
abbrev pub Named : Type 0
Named = List (Name × Cut)

-- the text of each name: the first one that has it counts
abbrev pub IncludeTexts : Type 0
IncludeTexts = Name → Option Cut

abbrev pub texts_of : Named → IncludeTexts
texts_of named = λ name. lookup (same_name name) named

-- a pair of a path and a text, the path in plain spelling and the text cut
abbrev pub named_pair : List ℕ → List ℕ × List ℕ → Name × Cut
named_pair root pair = (plain_name root pair.0, logical_lines pair.1)

-- a pair whose path spells no name
abbrev pub is_bad : List ℕ × List ℕ → Bool
is_bad pair = not (is_path pair.0)

-- the texts of some pairs, or the fault of the first whose path spells no name; places count from 1
abbrev pub includes_of : List ℕ → List (List ℕ × List ℕ) → Result IncludeTexts Reported
includes_of root pairs =
    option_map_or (λ n. Err (record (bad_name sources.Includes []) { place = n + 1 })) (position is_bad pairs) (Ok (texts_of (map (named_pair root) pairs)))

-- a call gives these texts, or this fault, unless memory ran out
abbrev pub GivesTexts : Result Named Halt → Result IncludeTexts Reported → Type 0
GivesTexts result answer = Gives (result_map_both texts_of (λ halt. halt) result) answer
