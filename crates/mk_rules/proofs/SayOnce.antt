-- The lines of makefiles have one answer.
use Rattle.std.proofs.Common.{◌≡◌, ℕ, zero, suc, ◌+◌, List, [], ◌∷◌, ◌++◌, Option, Some, None, Result, Ok, Err, sym, ap, ◌∙◌, subst}
use Rattle.std.specs.Prelude.{Bool}
use Rattle.std.specs.Result.{result_map_both}
use Rattle.mk_name.specs.Names.{Name}
use Rattle.mk_name.specs.Reported.{Reported}
use Rattle.mk_name.specs.declared.fault.Kind.TheVariants.{TwoRecipes}
use Rattle.mk_lines.specs.LogicalLine.{parts_of}
use Rattle.mk_lines.specs.Parts.{EntryParts, IncludeParts}
use Rattle.mk_lines.specs.declared.parts.Parts.{Parts}
use Rattle.mk_lines.specs.declared.parts.Parts.TheVariants.{Assign, Entry, Recipe, Include}
use Rattle.mk_include.specs.Includes.{Cut, IncludeTexts, reported_in}
use Rattle.mk_include.specs.Words.{word_text, words_of}
use Rattle.mk_macro.specs.Assignments.{Becomes, Effect, Fixes, IsBehind, LeadsTo, Stays, effect, immediate}
use Rattle.mk_macro.specs.Macros.{Macros, defined}
use Rattle.mk_macro.proofs.Unique.{one_expansion}
use Rattle.mk_rules.specs.Book as books
use Rattle.mk_rules.specs.Entries.{EntrySays, PartSays, bad_prerequisites, bad_targets, checked_entry, entry_of, expanded_names, good_names}
use Rattle.mk_rules.specs.Once.{SayOnce}
use Rattle.mk_rules.specs.Placed.{Placed}
use Rattle.mk_rules.specs.Reading.{AssignmentSays, BookSaysBy, EntriesSay, EntryLineSays, IncludeSays, LeadsOn, LinesSay, Point, ReadingResult, RestSays, SaysBy, Steps, TextSays, WordSays, WordSaysBy, depth_limit, ended_at, line_says, start}
use Rattle.mk_rules.specs.Reading as reading

same_ok : {X : Type 0} {x y : X} → ◌≡◌ {A = Result X Reported} (Ok x) (Ok y) → x ≡ y
same_ok e = cc

same_err : {X : Type 0} {x y : Reported} → ◌≡◌ {A = Result X Reported} (Err x) (Err y) → x ≡ y
same_err e = cc

err_ok : {X : Type 0} {x : Reported} {y : X} → ◌≡◌ {A = Result X Reported} (Err x) (Ok y) → ⊥
err_ok e = cc

-- ---- one line

leads_once : (macros : Macros) (name : Name) (effect : Effect) (one other : Result Macros Reported)
    → LeadsTo macros name effect one → LeadsTo macros name effect other → one ≡ other
leads_once macros name Stays one other a b = a ∙ sym b
leads_once macros name (Becomes definition) one other a b = a ∙ sym b
leads_once macros name (Fixes front text) one other a b =
    a.2 ∙ ap (λ (v : Result (List ℕ) Reported). result_map_both (λ v. defined macros name (immediate (front ++ v))) (λ fault. fault) v) (one_expansion macros text a.0 b.0 a.1 b.1)
    ∙ sym b.2

behind_once : (parts : Parts) (macros : Macros) (one other : Result Macros Reported) → IsBehind parts macros one → IsBehind parts macros other → one ≡ other
behind_once (Assign parts) macros one other a b = leads_once macros parts.name (effect (macros parts.name) parts.operator parts.value) one other a b
behind_once (Entry parts) macros one other a b = a ∙ sym b
behind_once Recipe macros one other a b = a ∙ sym b
behind_once (Include parts) macros one other a b = a ∙ sym b

assignment_once : (at : Point) (p : Placed) (one other : ReadingResult) → AssignmentSays at p one → AssignmentSays at p other → one ≡ other
assignment_once at p one other a b =
    a.2 ∙ ap (λ (r : Result Macros Reported). result_map_both (λ macros. record at { macros = macros }) (ended_at p at.macros) r) (behind_once (parts_of p.line) at.macros a.0 b.0 a.1 b.1)
    ∙ sym b.2

part_once : (root : List ℕ) (macros : Macros) (part : List ℕ) (one other : Result (List Name) Reported) → PartSays root macros part one → PartSays root macros part other → one ≡ other
part_once root macros part one other a b = a.2 ∙ ap (expanded_names root) (one_expansion macros part a.0 b.0 a.1 b.1) ∙ sym b.2

entry_once : (root : List ℕ) (macros : Macros) (p : Placed) (parts : EntryParts) (one other : Result books.Entry Reported)
    → EntrySays root macros p parts one → EntrySays root macros p parts other → one ≡ other
entry_once root macros p parts one other (bad_targets f t e) (bad_targets g u d) = e ∙ ap Err (same_err (part_once root macros parts.targets (Err f) (Err g) t u)) ∙ sym d
entry_once root macros p parts one other (bad_targets f t e) (bad_prerequisites ts g u q d) = absurd (err_ok (part_once root macros parts.targets (Err f) (Ok ts) t u))
entry_once root macros p parts one other (bad_targets f t e) (good_names ts ps u q d) = absurd (err_ok (part_once root macros parts.targets (Err f) (Ok ts) t u))
entry_once root macros p parts one other (bad_prerequisites ts g u q d) (bad_targets f t e) = absurd (err_ok (part_once root macros parts.targets (Err f) (Ok ts) t u))
entry_once root macros p parts one other (bad_prerequisites ts f u q e) (bad_prerequisites us g v r d) =
    e ∙ ap Err (same_err (part_once root macros parts.prerequisites (Err f) (Err g) q r)) ∙ sym d
entry_once root macros p parts one other (bad_prerequisites ts f u q e) (good_names us ps v r d) = absurd (err_ok (part_once root macros parts.prerequisites (Err f) (Ok ps) q r))
entry_once root macros p parts one other (good_names ts ps u q d) (bad_targets f t e) = absurd (err_ok (part_once root macros parts.targets (Err f) (Ok ts) t u))
entry_once root macros p parts one other (good_names us ps v r d) (bad_prerequisites ts f u q e) = absurd (err_ok (part_once root macros parts.prerequisites (Err f) (Ok ps) q r))
entry_once root macros p parts one other (good_names ts ps t q e) (good_names us rs u r d) =
    e ∙ ap (λ (ns : List Name). checked_entry (entry_of p parts.has_command ns ps)) (same_ok (part_once root macros parts.targets (Ok ts) (Ok us) t u))
    ∙ ap (λ (ns : List Name). checked_entry (entry_of p parts.has_command us ns)) (same_ok (part_once root macros parts.prerequisites (Ok ps) (Ok rs) q r))
    ∙ sym d

entry_line_once : (root : List ℕ) (parts : EntryParts) (at : Point) (p : Placed) (one other : ReadingResult) → EntryLineSays root parts at p one → EntryLineSays root parts at p other → one ≡ other
entry_line_once root parts at p one other a b =
    a.2 ∙ ap (λ (r : Result books.Entry Reported). result_map_both (λ e. record at { entries = at.entries ++ e ∷ [] }) (ended_at p at.macros) r) (entry_once root at.macros p parts a.0 b.0 a.1 b.1)
    ∙ sym b.2

-- ---- one after another

-- a step that leads to no two outcomes
abbrev LeadsOnce : {A : Type 0} → (Point → A → ReadingResult → Type 0) → Type 0
LeadsOnce {A} step = (at : Point) (x : A) (one other : ReadingResult) → step at x one → step at x other → one ≡ other

follows_once : (rest : Point → ReadingResult → Type 0) → ((at : Point) (one other : ReadingResult) → rest at one → rest at other → one ≡ other)
    → (said one other : ReadingResult) → LeadsOn rest said one → LeadsOn rest said other → one ≡ other
follows_once rest once (Err ended) one other a b = a ∙ sym b
follows_once rest once (Ok next) one other a b = once next one other a b

steps_once : {A : Type 0} (step : Point → A → ReadingResult → Type 0) → LeadsOnce step → (xs : List A) (at : Point) (one other : ReadingResult)
    → Steps step at xs one → Steps step at xs other → one ≡ other
steps_once step once [] at one other a b = a ∙ sym b
steps_once step once (x ∷ xs) at one other a b =
    follows_once (λ next rest. Steps step next xs rest) (λ next o p. steps_once step once xs next o p) a.0 one other a.2
    (subst (λ (said : ReadingResult). LeadsOn (λ next rest. Steps step next xs rest) said other) (sym (once at x a.0 b.0 a.1 b.1)) b.2)

-- ---- lines inside one another

module _ (root : List ℕ) (texts : IncludeTexts) (inner : Point → Placed → ReadingResult → Type 0) (once : LeadsOnce inner) where
  text_once : (at : Point) (name : Name) (cut : Cut) (one other : ReadingResult) → TextSays inner at name cut one → TextSays inner at name cut other → one ≡ other
  text_once at name (Err fault) one other a b = a ∙ sym b
  text_once at name (Ok lines) one other a b = steps_once inner once _ at one other a b

  word_once_by : (p : Placed) (before : Macros) (at : Point) (given : Result (Option (Name × Cut)) Reported) (one other : ReadingResult)
      → WordSaysBy inner p before at given one → WordSaysBy inner p before at given other → one ≡ other
  word_once_by p before at (Err fault) one other a b = a ∙ sym b
  word_once_by p before at (Ok None) one other a b = a ∙ sym b
  word_once_by p before at (Ok (Some text)) one other a b = text_once (record at { taken = at.taken + 1 }) text.0 (reported_in text.0 text.1) one other a b

  word_once : (hyphen : Bool) (room : ℕ) (p : Placed) (before : Macros) → LeadsOnce (WordSays root texts hyphen room inner p before)
  word_once hyphen room p before at word one other a b = word_once_by p before at (word_text root texts hyphen room at.taken word) one other a b

  rest_once : (hyphen : Bool) (room : ℕ) (at : Point) (p : Placed) (text : Result (List ℕ) Reported) (one other : ReadingResult)
      → RestSays root texts hyphen room inner at p text one → RestSays root texts hyphen room inner at p text other → one ≡ other
  rest_once hyphen room at p (Err fault) one other a b = a ∙ sym b
  rest_once hyphen room at p (Ok text) one other a b =
      steps_once (WordSays root texts hyphen room inner p at.macros) (word_once hyphen room p at.macros) (words_of text) at one other a b

  include_once : (room : ℕ) (parts : IncludeParts) (at : Point) (p : Placed) (one other : ReadingResult)
      → IncludeSays root texts room inner parts at p one → IncludeSays root texts room inner parts at p other → one ≡ other
  include_once room parts at p one other a b =
      rest_once parts.hyphen room at p a.0 one other a.2
      (subst (λ (text : Result (List ℕ) Reported). RestSays root texts parts.hyphen room inner at p text other) (sym (one_expansion at.macros parts.rest a.0 b.0 a.1 b.1)) b.2)

  says_once : (parts : Parts) (room : ℕ) (at : Point) (p : Placed) (one other : ReadingResult)
      → SaysBy parts root texts room inner at p one → SaysBy parts root texts room inner at p other → one ≡ other
  says_once (Assign parts) room at p one other a b = assignment_once at p one other a b
  says_once (Entry parts) room at p one other a b = entry_line_once root parts at p one other a b
  says_once Recipe room at p one other a b = a ∙ sym b
  says_once (Include parts) room at p one other a b = include_once room parts at p one other a b

line_once : (root : List ℕ) (texts : IncludeTexts) (room : ℕ) → LeadsOnce (line_says root texts room)
line_once root texts zero at p one other a b = absurd a
line_once root texts (suc room) at p one other a b = says_once root texts (line_says root texts room) (line_once root texts room) (parts_of p.line) room at p one other a b

-- ---- all lines, and their book

module _ (root : List ℕ) (texts : IncludeTexts) (macros : Macros) (lines : List Placed) where
  all_once : (one other : ReadingResult) → Steps (line_says root texts (suc depth_limit)) (start macros) lines one → Steps (line_says root texts (suc depth_limit)) (start macros) lines other → one ≡ other
  all_once one other a b = steps_once (line_says root texts (suc depth_limit)) (line_once root texts (suc depth_limit)) lines (start macros) one other a b

  same_point : {a b : Point} → ◌≡◌ {A = ReadingResult} (Ok a) (Ok b) → a ≡ b
  same_point e = cc

  same_end : {a b : reading.Ended} → ◌≡◌ {A = ReadingResult} (Err a) (Err b) → a ≡ b
  same_end e = cc

  no_end : {a : Point} {b : reading.Ended} → ◌≡◌ {A = ReadingResult} (Ok a) (Err b) → ⊥
  no_end e = cc

  lines_once : (one other : Result (List books.Entry) Reported) (after left : Macros) → LinesSay root texts macros lines one after → LinesSay root texts macros lines other left
      → (one ≡ other) × (after ≡ left)
  lines_once (Ok entries) (Ok more) after left a b =
      let same = same_point (all_once _ _ a.1 b.1) in
      (ap (λ (at : Point). Ok at.entries) same, ap (λ (at : Point). at.macros) same)
  lines_once (Ok entries) (Err fault) after left a b = absurd (no_end (all_once _ _ a.1 b))
  lines_once (Err fault) (Ok entries) after left a b = absurd (no_end (all_once _ _ b.1 a))
  lines_once (Err fault) (Err reported) after left a b =
      let same = same_end (all_once _ _ a b) in
      (ap (λ (e : reading.Ended). Err e.fault) same, ap (λ (e : reading.Ended). e.macros) same)

same_rule : {X : Type 0} {o : Option X} {x y : X} → o ≡ Some x → o ≡ Some y → x ≡ y
same_rule a b = cc

book_once : (second : Option (ℕ × Name)) (book : books.Book) (one other : Result books.Book Reported) → BookSaysBy second book one → BookSaysBy second book other → one ≡ other
book_once None book one other a b = a ∙ sym b
book_once (Some second) book one other a b =
    a.2 ∙ ap (λ (rule : books.Entry). Err (record { kind = TwoRecipes; source = rule.source; place = rule.line; names = second.1 ∷ [] })) (same_rule a.1 b.1) ∙ sym b.2

entries_once : (entries : Result (List books.Entry) Reported) (one other : Result books.Book Reported) → EntriesSay entries one → EntriesSay entries other → one ≡ other
entries_once (Ok entries) one other a b = book_once (books.second_recipe (books.book_of entries).rules) (books.book_of entries) one other a b
entries_once (Err fault) one other a b = a ∙ sym b

pub say_once : SayOnce
say_once root texts macros lines one other after left a b =
    let same = lines_once root texts macros lines a.0 b.0 after left a.1 b.1 in
    (entries_once a.0 one other a.2 (subst (λ (r : Result (List books.Entry) Reported). EntriesSay r other) (sym same.0) b.2), same.1)
