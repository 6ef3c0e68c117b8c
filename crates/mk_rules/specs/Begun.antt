-- What is left where memory runs out: the macros behind some beginning of the lines.
use Rattle.std.specs.Prelude.{◌≡◌, ◌⊎◌, ℕ, zero, suc, ◌+◌, Bool, List, [], ◌∷◌, Some, Ok}
use Rattle.mk_name.specs.Names.{Name}
use Rattle.mk_name.specs.declared.fault.Halt.{Halt}
use Rattle.mk_name.specs.declared.fault.Halt.TheVariants as halts
use Rattle.mk_name.specs.declared.fault.Source.TheVariants as sources
use Rattle.mk_lines.specs.LogicalLine.{LogicalLine, parts_of}
use Rattle.mk_lines.specs.Parts.{IncludeParts}
use Rattle.mk_lines.specs.declared.parts.Parts.{Parts}
use Rattle.mk_lines.specs.declared.parts.Parts.TheVariants.{Assign, Entry, Recipe, Include}
use Rattle.mk_macro.specs.Expansion.{IsExpansion}
use Rattle.mk_macro.specs.Macros.{Macros}
use Rattle.mk_include.specs.Includes.{Cut, IncludeTexts, reported_in}
use Rattle.mk_include.specs.Words.{word_text, words_of}
use Rattle.mk_rules.specs.Placed.{Placed, placed}
use Rattle.mk_rules.specs.Reading.{Point, ReadingResult, WordSays, depth_limit, line_says, start}

-- these macros are left behind some beginning of a list: inside one of its items, behind all items before it, or behind all
abbrev pub Begun : {A : Type 0} → (Point → A → Macros → Type 0) → (Point → A → ReadingResult → Type 0) → Point → List A → Macros → Type 0
Begun inside step at [] macros = macros ≡ at.macros
Begun inside step at (x ∷ xs) macros = inside at x macros ⊎ ((next : Point) × step at x (Ok next) × Begun inside step next xs macros)

-- inside the text of this name: none of its lines is read, or some beginning of them
abbrev pub TextBegun : (Point → Placed → Macros → Type 0) → (Point → Placed → ReadingResult → Type 0) → Point → Name → Cut → Macros → Type 0
TextBegun inside inner at name cut macros =
    (macros ≡ at.macros)
    ⊎ ((lines : List LogicalLine) × (cut ≡ Ok lines) × Begun inside inner at (placed (sources.Include name) lines) macros)

-- inside a word of an include line with these macros before it: its text is not read, or the macros are taken back, or its text is begun
pub data WordBegun (root : List ℕ) (texts : IncludeTexts) (hyphen : Bool) (room : ℕ) (inside : Point → Placed → Macros → Type 0) (inner : Point → Placed → ReadingResult → Type 0) (before : Macros) (at : Point) (word : List ℕ) (macros : Macros) : Type 0 where
  unread : macros ≡ at.macros → WordBegun root texts hyphen room inside inner before at word macros
  taken_back : macros ≡ before → WordBegun root texts hyphen room inside inner before at word macros
  opened : (name : Name) (cut : Cut) → word_text root texts hyphen room at.taken word ≡ Ok (Some (name, cut))
      → TextBegun inside inner (record at { taken = at.taken + 1 }) name (reported_in name cut) macros
      → WordBegun root texts hyphen room inside inner before at word macros

-- inside an include line: none of its words is read, or some beginning of them
abbrev pub IncludeBegun : List ℕ → IncludeTexts → ℕ → (Point → Placed → Macros → Type 0) → (Point → Placed → ReadingResult → Type 0) → IncludeParts → Point → Placed → Macros → Type 0
IncludeBegun root texts room inside inner parts at p macros =
    (macros ≡ at.macros)
    ⊎ ((text : List ℕ) × IsExpansion at.macros parts.rest (Ok text)
    × Begun (WordBegun root texts parts.hyphen room inside inner at.macros) (WordSays root texts parts.hyphen room inner p at.macros) at (words_of text) macros)

-- inside a line of these parts: an assignment and an entry leave the macros before them
abbrev pub BegunBy : Parts → List ℕ → IncludeTexts → ℕ → (Point → Placed → Macros → Type 0) → (Point → Placed → ReadingResult → Type 0) → Point → Placed → Macros → Type 0
BegunBy (Assign parts) root texts room inside inner at p macros = macros ≡ at.macros
BegunBy (Entry parts) root texts room inside inner at p macros = macros ≡ at.macros
BegunBy Recipe root texts room inside inner at p macros = macros ≡ at.macros
BegunBy (Include parts) root texts room inside inner at p macros = IncludeBegun root texts room inside inner parts at p macros

-- inside a line where so many texts may lie inside one another, its own among them
abbrev pub line_begun : List ℕ → IncludeTexts → ℕ → Point → Placed → Macros → Type 0
line_begun root texts zero at p macros = ⊥
line_begun root texts (suc room) at p macros = BegunBy (parts_of p.line) root texts room (line_begun root texts room) (line_says root texts room) at p macros

-- these macros are left behind some beginning of the lines, with those before it
abbrev pub LinesBegun : List ℕ → IncludeTexts → Macros → List Placed → Macros → Type 0
LinesBegun root texts macros lines after = Begun (line_begun root texts (suc depth_limit)) (line_says root texts (suc depth_limit)) (start macros) lines after

-- where a call was out of memory, this holds
abbrev pub IfMemory : Halt → Type 0 → Type 0
IfMemory halts.Memory holds = holds
IfMemory (halts.Fault fault) holds = Unit {0}
