-- The shown form of a name, and the text that reports a fault.
use Rattle.std.specs.Prelude.{ℕ, ◌/◌, ◌%◌, Bool, List, [], ◌∷◌, ◌++◌, ◌==◌, ◌&&◌, ◌||◌, nat_le, not, slice_index, codes, if◌then◌else◌}
use Rattle.std.specs.List.{flat_map}
use Rattle.std.specs.Fmt.{decimal}
use Rattle.mk_name.specs.Reported.{Reported}
use Rattle.mk_name.specs.declared.fault.Kind.{Kind}
use Rattle.mk_name.specs.declared.fault.Kind.TheVariants as kinds
use Rattle.mk_name.specs.declared.fault.Source.{Source}
use Rattle.mk_name.specs.declared.fault.Source.TheVariants as sources

-- a byte that stands for itself: a visible one that is no backslash, or one past ASCII
abbrev pub is_visible : ℕ → Bool
is_visible b = (nat_le 33 b && nat_le b 126 && not (b == 92)) || nat_le 128 b

-- a digit below 16
abbrev pub hex_digit : ℕ → ℕ
hex_digit d = slice_index (codes "0123456789abcdef") d

-- any other byte is `\x` and its two hexadecimal digits
abbrev pub shown_byte : ℕ → List ℕ
shown_byte b = if is_visible b then b ∷ [] else 92 ∷ 120 ∷ hex_digit (b / 16) ∷ hex_digit (b % 16) ∷ []

-- a name as it is shown
abbrev pub shown : List ℕ → List ℕ
shown name = flat_map shown_byte name

-- a line: a text and a newline
abbrev pub line : List ℕ → List ℕ
line text = text ++ codes "\n"

-- the number by which reports show a kind of fault
abbrev pub number_of : Kind → ℕ
number_of kinds.BadName = 1
number_of kinds.NoColon = 2
number_of kinds.StrayRecipe = 3
number_of kinds.DoubleColon = 4
number_of kinds.BadAssignment = 5
number_of kinds.TextTooLarge = 7
number_of kinds.MacroLoop = 8
number_of kinds.BadReference = 9
number_of kinds.InternalMacro = 10
number_of kinds.ExpansionTooLarge = 11
number_of kinds.TwoRecipes = 12
number_of kinds.MixedSpecial = 13
number_of kinds.DefaultPrerequisites = 14
number_of kinds.NoGoal = 15
number_of kinds.NoRule = 16
number_of kinds.Cycle = 17
number_of kinds.GraphTooLarge = 18
number_of kinds.BadFootprint = 19
number_of kinds.FootprintsTooLarge = 20
number_of kinds.MissingFootprint = 21
number_of kinds.WritesTarget = 22
number_of kinds.TooManyPairs = 23
number_of kinds.BadLog = 24
number_of kinds.BadProof = 25
number_of kinds.UnknownInclude = 26
number_of kinds.IncludeTooDeep = 27
number_of kinds.TooManyIncludes = 28
number_of kinds.BadTask = 29
number_of kinds.TaskTwice = 30
number_of kinds.UnknownTask = 31
number_of kinds.TooManyTasks = 32
number_of kinds.TasksTooLarge = 33
number_of kinds.UnusedFootprint = 34
number_of kinds.NotAwaited = 35

-- the word by which reports show it
abbrev pub word_of : Kind → List ℕ
word_of kinds.BadName = codes "BadName"
word_of kinds.NoColon = codes "NoColon"
word_of kinds.StrayRecipe = codes "StrayRecipe"
word_of kinds.DoubleColon = codes "DoubleColon"
word_of kinds.BadAssignment = codes "BadAssignment"
word_of kinds.TextTooLarge = codes "TextTooLarge"
word_of kinds.MacroLoop = codes "MacroLoop"
word_of kinds.BadReference = codes "BadReference"
word_of kinds.InternalMacro = codes "InternalMacro"
word_of kinds.ExpansionTooLarge = codes "ExpansionTooLarge"
word_of kinds.TwoRecipes = codes "TwoRecipes"
word_of kinds.MixedSpecial = codes "MixedSpecial"
word_of kinds.DefaultPrerequisites = codes "DefaultPrerequisites"
word_of kinds.NoGoal = codes "NoGoal"
word_of kinds.NoRule = codes "NoRule"
word_of kinds.Cycle = codes "Cycle"
word_of kinds.GraphTooLarge = codes "GraphTooLarge"
word_of kinds.BadFootprint = codes "BadFootprint"
word_of kinds.FootprintsTooLarge = codes "FootprintsTooLarge"
word_of kinds.MissingFootprint = codes "MissingFootprint"
word_of kinds.WritesTarget = codes "WritesTarget"
word_of kinds.TooManyPairs = codes "TooManyPairs"
word_of kinds.BadLog = codes "BadLog"
word_of kinds.BadProof = codes "BadProof"
word_of kinds.UnknownInclude = codes "UnknownInclude"
word_of kinds.IncludeTooDeep = codes "IncludeTooDeep"
word_of kinds.TooManyIncludes = codes "TooManyIncludes"
word_of kinds.BadTask = codes "BadTask"
word_of kinds.TaskTwice = codes "TaskTwice"
word_of kinds.UnknownTask = codes "UnknownTask"
word_of kinds.TooManyTasks = codes "TooManyTasks"
word_of kinds.TasksTooLarge = codes "TasksTooLarge"
word_of kinds.UnusedFootprint = codes "UnusedFootprint"
word_of kinds.NotAwaited = codes "NotAwaited"

-- how the text of this name is shown, which an include line names
abbrev pub include_text : List ℕ → List ℕ
include_text name = codes "include:" ++ shown name

-- how a source is shown
abbrev pub source_text : Source → List ℕ
source_text sources.Settings = codes "settings"
source_text sources.Listing = codes "listing"
source_text sources.Base = codes "base"
source_text sources.Makefile = codes "makefile"
source_text sources.Graph = codes "graph"
source_text sources.Footprints = codes "footprints"
source_text sources.Jobs = codes "jobs"
source_text sources.Log = codes "log"
source_text sources.Proof = codes "proof"
source_text sources.Includes = codes "includes"
source_text sources.Tasks = codes "tasks"
source_text (sources.Include name) = include_text name

-- the number and the word of a kind
abbrev pub kind_line : Kind → List ℕ
kind_line kind = line (codes "F" ++ decimal (number_of kind) ++ codes " " ++ word_of kind)

-- the source and the place of a fault
abbrev pub place_line : Source → ℕ → List ℕ
place_line source place = line (codes "at " ++ source_text source ++ codes " " ++ decimal place)

-- one name of a fault
abbrev pub name_line : List ℕ → List ℕ
name_line name = line (codes "name " ++ shown name)

-- the report of a fault: that the input is refused, what is wrong, where, and which names it reports
abbrev pub refused_text : Reported → List ℕ
refused_text reported = line (codes "refused") ++ kind_line reported.kind ++ place_line reported.source reported.place ++ flat_map name_line reported.names
