-- Some beginning of a reading.
use Rattle.std.proofs.Common.{◌≡◌, inl, inr, ℕ, suc, ◌+◌, ◌-◌, ◌<◌, arith, Bool, Option, List, [], ◌∷◌, ◌++◌, Some, Result, Ok, Err, IfErr, subst, ap}
use Rattle.std.specs.Borrow.{Bor}
use Rattle.std.specs.Option.{option_map}
use Rattle.mk_name.specs.Names.{Name}
use Rattle.mk_name.specs.Reported.{Reported}
use Rattle.mk_name.specs.declared.fault.Halt.{Halt}
use Rattle.mk_name.specs.declared.fault.Halt.TheVariants as halts
use Rattle.mk_name.specs.declared.fault.Source.TheVariants as sources
use Rattle.mk_lines.specs.LogicalLine.{LogicalLine, parts_of}
use Rattle.mk_lines.specs.Parts.{IncludeParts}
use Rattle.mk_lines.specs.declared.parts.Parts.{Parts}
use Rattle.mk_lines.specs.declared.parts.Parts.TheVariants.{Assign, Entry, Recipe, Include}
use Rattle.mk_macro.specs.Expansion.{IsExpansion}
use Rattle.mk_macro.specs.Macros.{Macros}
use Rattle.mk_include.specs.Includes.{Cut, IncludeTexts, reported_in}
use Rattle.mk_include.specs.Words.{word_text, words_of}
use Rattle.mk_rules.specs.Begun.{Begun, BegunBy, IfMemory, IncludeBegun, LinesBegun, TextBegun, WordBegun, line_begun, opened, unread}
use Rattle.mk_rules.specs.Book as books
use Rattle.mk_rules.specs.Placed.{Placed, placed}
use Rattle.mk_rules.specs.Reading.{LeadsOn, LinesSay, Point, ReadingResult, Steps, WordSays, depth_limit, line_says, start}

-- what holds anyway holds where memory runs out
pub memory_has : {Y : Type 0} (result : Result Y Halt) (holds : Type 0) → holds → IfErr result (λ halt. IfMemory halt holds)
memory_has (Ok y) holds h = tt
memory_has (Err halts.Memory) holds h = h
memory_has (Err (halts.Fault fault)) holds h = tt

-- what holds there, and leads to more
pub memory_by : {Y : Type 0} (result : Result Y Halt) (one other : Type 0) → (one → other) → IfErr result (λ halt. IfMemory halt one) → IfErr result (λ halt. IfMemory halt other)
memory_by (Ok y) one other to h = tt
memory_by (Err halts.Memory) one other to h = to h
memory_by (Err (halts.Fault fault)) one other to h = tt

halt_by : (halt : Halt) (one other : Type 0) → (one → other) → IfMemory halt one → IfMemory halt other
halt_by halts.Memory one other to h = to h
halt_by (halts.Fault fault) one other to h = tt

module _ {A : Type 0} (inside : Point → A → Macros → Type 0) (step : Point → A → ReadingResult → Type 0) where
  -- what some beginning of the rest leaves, some beginning of the whole does
  abbrev pub Reaches : Point → List A → Point → List A → Type 0
  Reaches first xs now rest = (left : Macros) → Begun inside step now rest left → Begun inside step first xs left

  module _ (first : Point) (xs : List A) (now : Point) (left : List A) (reaches : Reaches first xs now left) (x : A) (rest : List A) (is : left ≡ x ∷ rest) where
    reaches_here : Reaches first xs now (x ∷ rest)
    reaches_here = subst (λ (l : List A). Reaches first xs now l) is reaches

    pub reaches_on : (next : Point) → step now x (Ok next) → Reaches first xs next rest
    reaches_on next says = λ macros h. reaches_here macros (inr (next, says, h))

    pub reaches_in : (halt : Halt) (macros : Macros) → IfMemory halt (inside now x macros) → IfMemory halt (Begun inside step first xs macros)
    reaches_in halt macros h = halt_by halt (inside now x macros) (Begun inside step first xs macros) (λ one. reaches_here macros (inl one)) h

  -- steps at all items
  module _ (x : A) (xs : List A) (at to : Point) (rest : (next : Point) → Steps step next xs (Ok to) → Begun inside step next xs to.macros) where
    behind : (said : ReadingResult) → step at x said → LeadsOn (λ next rest. Steps step next xs rest) said (Ok to) → Begun inside step at (x ∷ xs) to.macros
    behind (Err ended) says h = absurd (cc)
    behind (Ok next) says h = inr (next, says, rest next h)

  same_macros : (at to : Point) → ◌≡◌ {A = ReadingResult} (Ok to) (Ok at) → to.macros ≡ at.macros
  same_macros at to e = let same : to ≡ at = cc in ap (λ (p : Point). p.macros) same

  pub begun_all : (xs : List A) (at to : Point) → Steps step at xs (Ok to) → Begun inside step at xs to.macros
  begun_all [] at to h = same_macros at to h
  begun_all (x ∷ xs) at to h = behind x xs at to (λ next inner. begun_all xs next to inner) h.0 h.1 h.2

  -- steps at a list, and then some at another
  module _ (x : A) (front back : List A) (at mid : Point) (macros : Macros) (rest : (next : Point) → Steps step next front (Ok mid) → Begun inside step next (front ++ back) macros) where
    behind_first : (said : ReadingResult) → step at x said → LeadsOn (λ next rest. Steps step next front rest) said (Ok mid) → Begun inside step at (x ∷ front ++ back) macros
    behind_first (Err ended) says h = absurd (cc)
    behind_first (Ok next) says h = inr (next, says, rest next h)

  pub begun_back : (front back : List A) (at mid : Point) (macros : Macros) → Steps step at front (Ok mid) → Begun inside step mid back macros → Begun inside step at (front ++ back) macros
  begun_back [] back at mid macros h more = let same : mid ≡ at = cc in subst (λ (p : Point). Begun inside step p back macros) same more
  begun_back (x ∷ front) back at mid macros h more =
      behind_first x front back at mid macros (λ next inner. begun_back front back next mid macros inner more) h.0 h.1 h.2

  module _ (stays : (at : Point) (x : A) (macros : Macros) → macros ≡ at.macros → inside at x macros) where
    -- nothing is read yet
    pub begun_none : (xs : List A) (at : Point) (macros : Macros) → macros ≡ at.macros → Begun inside step at xs macros
    begun_none [] at macros same = same
    begun_none (x ∷ xs) at macros same = inl (stays at x macros same)

    pub begun_front : (front back : List A) (at : Point) (macros : Macros) → Begun inside step at front macros → Begun inside step at (front ++ back) macros
    begun_front [] back at macros h = begun_none back at macros h
    begun_front (x ∷ front) back at macros (inl here) = inl here
    begun_front (x ∷ front) back at macros (inr later) = inr (later.0, later.1, begun_front front back later.0 macros later.2)

-- a line of these parts, where the macros before it stay
parts_stay : (parts : Parts) (root : List ℕ) (texts : IncludeTexts) (room : ℕ) (inside : Point → Placed → Macros → Type 0) (inner : Point → Placed → ReadingResult → Type 0) (at : Point) (p : Placed) (macros : Macros) → macros ≡ at.macros
    → BegunBy parts root texts room inside inner at p macros
parts_stay (Assign parts) root texts room inside inner at p macros same = same
parts_stay (Entry parts) root texts room inside inner at p macros same = same
parts_stay Recipe root texts room inside inner at p macros same = same
parts_stay (Include parts) root texts room inside inner at p macros same = inl same

pub line_stays : (root : List ℕ) (texts : IncludeTexts) (room : ℕ) (at : Point) (p : Placed) (macros : Macros) → macros ≡ at.macros → line_begun root texts (suc room) at p macros
line_stays root texts room at p macros same = parts_stay (parts_of p.line) root texts room (line_begun root texts room) (line_says root texts room) at p macros same

-- a text by its lines
pub text_begun : {Y : Type 0} (result : Result Y Halt) (at : Point) (root : List ℕ) (texts : IncludeTexts) (room : ℕ) → 0 < room → (name : Name) (cut : Cut) (lines : List LogicalLine) (macros : Macros) → reported_in name cut ≡ Ok lines
    → IfErr result (λ halt. IfMemory halt (Begun (line_begun root texts (suc (room - 1))) (line_says root texts (suc (room - 1))) at (placed (sources.Include name) lines) macros))
    → IfErr result (λ halt. IfMemory halt (TextBegun (line_begun root texts room) (line_says root texts room) at name (reported_in name cut) macros))
text_begun result at root texts room some name cut lines macros is h =
    let one : suc (room - 1) ≡ room = omega arith in
    memory_by result (Begun (line_begun root texts (suc (room - 1))) (line_says root texts (suc (room - 1))) at (placed (sources.Include name) lines) macros)
    (TextBegun (line_begun root texts room) (line_says root texts room) at name (reported_in name cut) macros)
    (λ begun. inr (lines, is, subst (λ (n : ℕ). Begun (line_begun root texts n) (line_says root texts n) at (placed (sources.Include name) lines) macros) one begun)) h

module _ (root : List ℕ) (texts : IncludeTexts) (hyphen : Bool) (room : ℕ) (inside : Point → Placed → Macros → Type 0) (inner : Point → Placed → ReadingResult → Type 0) (before : Macros) where
  -- a word by its text
  pub word_begun : {Y : Type 0} (result : Result Y Halt) (at : Point) (word : List ℕ) (macros : Macros) (name : Name) (cut : Cut)
      → IfErr result (λ halt. IfMemory halt (TextBegun inside inner (record at { taken = at.taken + 1 }) name (reported_in name cut) macros))
      → word_text root texts hyphen room at.taken word ≡ Ok (Some (name, cut)) → IfErr result (λ halt. IfMemory halt (WordBegun root texts hyphen room inside inner before at word macros))
  word_begun result at word macros name cut h is =
      memory_by result (TextBegun inside inner (record at { taken = at.taken + 1 }) name (reported_in name cut) macros) (WordBegun root texts hyphen room inside inner before at word macros) (λ text. opened name cut is text) h

  pub no_words : (step : Point → List ℕ → ReadingResult → Type 0) (words : List (List ℕ)) (at : Point) (macros : Macros) → macros ≡ at.macros → Begun (WordBegun root texts hyphen room inside inner before) step at words macros
  no_words step words at macros same =
      begun_none (WordBegun root texts hyphen room inside inner before) step (λ at word macros same. unread same) words at macros same

-- the text that a call gave
pub text_given : (asked : Result (Option (Name × Cut)) Reported) (found : Option (Name × Bor Cut)) (name : Name) (cut : Bor Cut)
    → asked ≡ Ok (option_map (λ (text : Name × Bor Cut). (text.0, text.1.now)) found) → found ≡ Some (name, cut) → asked ≡ Ok (Some (name, cut.now))
text_given asked found name cut given is =
    subst (λ (o : Option (Name × Bor Cut)). asked ≡ Ok (option_map (λ (text : Name × Bor Cut). (text.0, text.1.now)) o)) is given

-- an include line by its words
pub include_begun : {Y : Type 0} (result : Result Y Halt) (at : Point) (macros : Macros) (root : List ℕ) (texts : IncludeTexts) (room : ℕ) (inside : Point → Placed → Macros → Type 0) (inner : Point → Placed → ReadingResult → Type 0) (parts : IncludeParts) (p : Placed)
    (text rest : List ℕ) (hyphen : Bool) (words : List (List ℕ)) → rest ≡ parts.rest → IsExpansion at.macros rest (Ok text) → hyphen ≡ parts.hyphen → words ≡ words_of text
    → IfErr result (λ halt. IfMemory halt (Begun (WordBegun root texts hyphen room inside inner at.macros) (WordSays root texts hyphen room inner p at.macros) at words macros))
    → IfErr result (λ halt. IfMemory halt (IncludeBegun root texts room inside inner parts at p macros))
include_begun result at macros root texts room inside inner parts p text rest hyphen words rest_is expansion hyphen_is words_is h =
    memory_by result (Begun (WordBegun root texts hyphen room inside inner at.macros) (WordSays root texts hyphen room inner p at.macros) at words macros) (IncludeBegun root texts room inside inner parts at p macros)
    (λ begun. inr (
      text,
      subst (λ (r : List ℕ). IsExpansion at.macros r (Ok text)) rest_is expansion,
      subst (λ (b : Bool). Begun (WordBegun root texts b room inside inner at.macros) (WordSays root texts b room inner p at.macros) at (words_of text) macros) hyphen_is
          (subst (λ (ws : List (List ℕ)). Begun (WordBegun root texts hyphen room inside inner at.macros) (WordSays root texts hyphen room inner p at.macros) at ws macros) words_is begun),
    ))
    h

-- the lines of two texts
module _ (root : List ℕ) (texts : IncludeTexts) (macros : Macros) where
  pub lines_none : (lines : List Placed) (after : Macros) → after ≡ macros → LinesBegun root texts macros lines after
  lines_none lines after same =
      begun_none (line_begun root texts (suc depth_limit)) (line_says root texts (suc depth_limit)) (line_stays root texts depth_limit) lines (start macros) after same

  pub lines_all : (lines : List Placed) (entries : List books.Entry) (after : Macros) → LinesSay root texts macros lines (Ok entries) after → LinesBegun root texts macros lines after
  lines_all lines entries after h =
      begun_all (line_begun root texts (suc depth_limit)) (line_says root texts (suc depth_limit)) lines (start macros) (record { entries = entries; macros = after; taken = h.0 }) h.1

  pub base_begun : (base more : List Placed) (halt : Halt) (after : Macros) → IfMemory halt (LinesBegun root texts macros base after) → IfMemory halt (LinesBegun root texts macros (base ++ more) after)
  base_begun base more halt after h =
      halt_by halt (LinesBegun root texts macros base after) (LinesBegun root texts macros (base ++ more) after)
      (begun_front (line_begun root texts (suc depth_limit)) (line_says root texts (suc depth_limit)) (line_stays root texts depth_limit) base more (start macros) after) h

  pub more_begun : {Y : Type 0} (base more : List Placed) (mid : Point) (result : Result Y Halt) (after : Macros) → Steps (line_says root texts (suc depth_limit)) (start macros) base (Ok mid)
      → IfErr result (λ halt. IfMemory halt (Begun (line_begun root texts (suc depth_limit)) (line_says root texts (suc depth_limit)) mid more after)) → IfErr result (λ halt. IfMemory halt (LinesBegun root texts macros (base ++ more) after))
  more_begun base more mid result after first h =
      memory_by result _ (LinesBegun root texts macros (base ++ more) after)
      (begun_back (line_begun root texts (suc depth_limit)) (line_says root texts (suc depth_limit)) base more (start macros) mid after first) h
