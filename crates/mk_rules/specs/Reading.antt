-- What the lines of the makefiles say, one after another ("Macros", "Target Rules", "Include Lines", and the profile).
use Rattle.std.specs.Prelude.{◌≡◌, ℕ, zero, suc, ◌+◌, Bool, List, [], ◌∷◌, ◌++◌, Option, None, Some, Result, Ok, Err, Vec, slice_get}
use Rattle.std.specs.Global.{Global}
use Rattle.std.specs.Result.{result_map_both}
use Rattle.mk_name.specs.Gives.{Answers}
use Rattle.mk_name.specs.Names.{Name}
use Rattle.mk_name.specs.Reported.{Reported}
use Rattle.mk_name.specs.declared.fault.Halt.{Halt}
use Rattle.mk_name.specs.declared.fault.Halt.TheVariants as halts
use Rattle.mk_name.specs.declared.fault.Kind.TheVariants.{TwoRecipes}
use Rattle.mk_name.specs.declared.fault.Source.TheVariants as sources
use Rattle.mk_lines.specs.LogicalLine.{parts_of}
use Rattle.mk_lines.specs.Parts.{EntryParts, IncludeParts}
use Rattle.mk_lines.specs.declared.parts.Parts.{Parts}
use Rattle.mk_lines.specs.declared.parts.Parts.TheVariants.{Assign, Entry, Recipe, Include}
use Rattle.mk_macro.specs.Macros.{Entries, Macros, macros_of}
use Rattle.mk_macro.specs.Assignments.{IsAssignment}
use Rattle.mk_macro.specs.Expansion.{IsExpansion}
use Rattle.mk_include.specs.Includes.{Cut, IncludeTexts, reported_in}
use Rattle.mk_include.specs.Words.{word_text, words_of}
use Rattle.mk_rules.specs.Book as books
use Rattle.mk_rules.specs.Entries.{EntrySays}
use Rattle.mk_rules.specs.Placed.{Placed, placed, reported_at}

-- how far a reading has come: the entries so far, the macros now, and how many texts were taken in
pub record Point : Type 0 where
  pub entries : List books.Entry
  pub macros : Macros
  pub taken : ℕ

-- what ends a reading: a fault, and the macros that it leaves
pub record Ended : Type 0 where
  pub fault : Reported
  pub macros : Macros

-- where a part of a reading leads: to another point, or to the end
abbrev pub ReadingResult : Type 0
ReadingResult = Result Point Ended

-- a fault of the line p, which leaves these macros
abbrev pub ended_at : Placed → Macros → Reported → Ended
ended_at p macros fault = record { fault = reported_at p fault; macros = macros }

-- what comes behind a step: nothing more behind the end, and else the rest from the next point on
abbrev pub LeadsOn : (Point → ReadingResult → Type 0) → ReadingResult → ReadingResult → Type 0
LeadsOn rest (Err ended) answer = answer ≡ Err ended
LeadsOn rest (Ok next) answer = rest next answer

-- a step at each item of a list, one after another, from this point on
abbrev pub Steps : {A : Type 0} → (Point → A → ReadingResult → Type 0) → Point → List A → ReadingResult → Type 0
Steps step at [] answer = answer ≡ Ok at
Steps step at (x ∷ xs) answer = (said : ReadingResult) × step at x said × LeadsOn (λ next rest. Steps step next xs rest) said answer

-- what an assignment leads to: its fault leaves the macros before it
abbrev pub AssignmentSays : Point → Placed → ReadingResult → Type 0
AssignmentSays at p answer =
    (behind : Result Macros Reported) × IsAssignment at.macros p.line behind
    × (answer ≡ result_map_both (λ macros. record at { macros = macros }) (ended_at p at.macros) behind)

-- what an entry of these parts leads to
abbrev pub EntryLineSays : List ℕ → EntryParts → Point → Placed → ReadingResult → Type 0
EntryLineSays root parts at p answer =
    (entry : Result books.Entry Reported) × EntrySays root at.macros p parts entry
    × (answer ≡ result_map_both (λ e. record at { entries = at.entries ++ e ∷ [] }) (ended_at p at.macros) entry)

-- what the text of this name leads to, each of whose lines says this: its own fault leaves the macros before it
abbrev pub TextSays : (Point → Placed → ReadingResult → Type 0) → Point → Name → Cut → ReadingResult → Type 0
TextSays inner at name (Err fault) answer = answer ≡ Err (record { fault = fault; macros = at.macros })
TextSays inner at name (Ok lines) answer = Steps inner at (placed (sources.Include name) lines) answer

-- what a word of the include line p leads to, by the text that it names: the word's own fault leaves the macros before
-- the line, and so takes back what the texts of earlier words assigned
abbrev pub WordSaysBy : (Point → Placed → ReadingResult → Type 0) → Placed → Macros → Point → Result (Option (Name × Cut)) Reported → ReadingResult → Type 0
WordSaysBy inner p before at (Err fault) answer = answer ≡ Err (ended_at p before fault)
WordSaysBy inner p before at (Ok None) answer = answer ≡ Ok at
WordSaysBy inner p before at (Ok (Some text)) answer = TextSays inner (record at { taken = at.taken + 1 }) text.0 (reported_in text.0 text.1) answer

abbrev pub WordSays : List ℕ → IncludeTexts → Bool → ℕ → (Point → Placed → ReadingResult → Type 0) → Placed → Macros → Point → List ℕ → ReadingResult → Type 0
WordSays root texts hyphen room inner p before at word answer = WordSaysBy inner p before at (word_text root texts hyphen room at.taken word) answer

-- what an include line leads to whose rest expands to this
abbrev pub RestSays : List ℕ → IncludeTexts → Bool → ℕ → (Point → Placed → ReadingResult → Type 0) → Point → Placed → Result (List ℕ) Reported → ReadingResult → Type 0
RestSays root texts hyphen room inner at p (Err fault) answer = answer ≡ Err (ended_at p at.macros fault)
RestSays root texts hyphen room inner at p (Ok text) answer = Steps (WordSays root texts hyphen room inner p at.macros) at (words_of text) answer

-- what an include line of these parts leads to: its rest is expanded once, with the macros before the line
abbrev pub IncludeSays : List ℕ → IncludeTexts → ℕ → (Point → Placed → ReadingResult → Type 0) → IncludeParts → Point → Placed → ReadingResult → Type 0
IncludeSays root texts room inner parts at p answer =
    (text : Result (List ℕ) Reported) × IsExpansion at.macros parts.rest text × RestSays root texts parts.hyphen room inner at p text answer

-- what a line of these parts leads to, inside which so many texts may open, each of whose lines says this
abbrev pub SaysBy : Parts → List ℕ → IncludeTexts → ℕ → (Point → Placed → ReadingResult → Type 0) → Point → Placed → ReadingResult → Type 0
SaysBy (Assign parts) root texts room inner at p answer = AssignmentSays at p answer
SaysBy (Entry parts) root texts room inner at p answer = EntryLineSays root parts at p answer
SaysBy Recipe root texts room inner at p answer = answer ≡ Ok at
SaysBy (Include parts) root texts room inner at p answer = IncludeSays root texts room inner parts at p answer

-- what a line leads to where so many texts may lie inside one another, its own among them
abbrev pub line_says : List ℕ → IncludeTexts → ℕ → Point → Placed → ReadingResult → Type 0
line_says root texts zero at p answer = ⊥
line_says root texts (suc room) at p answer = SaysBy (parts_of p.line) root texts room (line_says root texts room) at p answer

-- these entries so far, this many texts taken in, and what a value of the type `Macros` holds
abbrev pub point : List books.Entry → ℕ → Entries → Point
point entries taken macros = record { entries = entries; macros = macros_of macros; taken = taken }

-- nothing is read yet
abbrev pub start : Macros → Point
start macros = record { entries = []; macros = macros; taken = 0 }

-- 16 texts may open inside the makefiles, one inside another
abbrev pub depth_limit : ℕ
depth_limit = 16

-- what the lines say: their entries, with the macros behind them, or the first fault, with the macros that it leaves
abbrev pub LinesSay : List ℕ → IncludeTexts → Macros → List Placed → Result (List books.Entry) Reported → Macros → Type 0
LinesSay root texts macros lines (Ok entries) after =
    (taken : ℕ) × Steps (line_says root texts (suc depth_limit)) (start macros) lines (Ok (record { entries = entries; macros = after; taken = taken }))
LinesSay root texts macros lines (Err fault) after =
    Steps (line_says root texts (suc depth_limit)) (start macros) lines (Err (record { fault = fault; macros = after }))

-- what a book answers: itself, unless a target gets commands a second time, from the rule at this place
abbrev pub BookSaysBy : Option (ℕ × Name) → books.Book → Result books.Book Reported → Type 0
BookSaysBy None book answer = answer ≡ Ok book
BookSaysBy (Some second) book answer =
    (rule : books.Entry) × (slice_get book.rules second.0 ≡ Some rule)
    × (answer ≡ Err (record { kind = TwoRecipes; source = rule.source; place = rule.line; names = second.1 ∷ [] }))

abbrev pub BookSays : books.Book → Result books.Book Reported → Type 0
BookSays book answer = BookSaysBy (books.second_recipe book.rules) book answer

-- the book of the entries, or a fault before
abbrev pub EntriesSay : Result (List books.Entry) Reported → Result books.Book Reported → Type 0
EntriesSay (Ok entries) answer = BookSays (books.book_of entries) answer
EntriesSay (Err fault) answer = answer ≡ Err fault

-- what makefiles of these lines say, with these texts for their include lines, these macros before them and those after
abbrev pub MakefilesSay : List ℕ → IncludeTexts → Macros → List Placed → Result books.Book Reported → Macros → Type 0
MakefilesSay root texts macros lines answer after =
    (entries : Result (List books.Entry) Reported) × LinesSay root texts macros lines entries after × EntriesSay entries answer

-- a call ends the reading by its halt, leaving these macros, unless memory ran out
abbrev pub EndsAt : Halt → Macros → (ReadingResult → Type 0) → Type 0
EndsAt halts.Memory macros says = Unit {0}
EndsAt (halts.Fault fault) macros says = says (Err (record { fault = fault; macros = macros }))

-- a call leads to this point, or ends the reading with the macros that are there
abbrev pub Leads : {Y : Type 0} → Result Y Halt → Point → (ReadingResult → Type 0) → Type 0
Leads (Ok y) at says = says (Ok at)
Leads (Err halt) at says = EndsAt halt at.macros says

-- a call gives entries or a fault, unless memory ran out
abbrev pub AnswersEntries : Result (Vec books.Entry Global) Halt → (Result (List books.Entry) Reported → Type 0) → Type 0
AnswersEntries result answers = Answers (result_map_both (λ entries. entries.items) (λ halt. halt) result) answers
