-- What the words of an include line lead to.
use Rattle.std.proofs.Common.{◌≡◌, ℕ, suc, ◌+◌, ◌-◌, ◌<◌, Bool, true, false, if◌then◌else◌, List, [], ◌∷◌, Option, None, Some, Result, Ok, Err, arith, refl, sym, subst}
use Rattle.std.specs.Prelude.{nat_le, ◌==◌}
use Rattle.mk_name.specs.Gives.{Halts, HaltsAmong}
use Rattle.mk_name.specs.Names.{Name}
use Rattle.mk_name.specs.Reported.{Reported}
use Rattle.mk_name.specs.declared.fault.Halt.{Halt}
use Rattle.mk_name.specs.declared.fault.Halt.TheVariants as halts
use Rattle.mk_name.specs.declared.fault.Kind.TheVariants.{UnknownInclude}
use Rattle.mk_name.specs.declared.fault.Source.TheVariants as sources
use Rattle.mk_lines.specs.LogicalLine.{LogicalLine}
use Rattle.mk_lines.specs.Parts.{IncludeParts}
use Rattle.mk_macro.specs.Expansion.{IsExpansion}
use Rattle.mk_macro.specs.Macros.{Macros}
use Rattle.std.specs.Option.{option_map_or}
use Rattle.mk_include.specs.Includes.{Cut, IncludeTexts, reported_in}
use Rattle.mk_include.specs.Words.{include_limit, opened, text_of_name, word_text, word_reported, words_of}
use Rattle.mk_text.specs.Spelling.{word_name}
use Rattle.mk_rules.specs.Placed.{IsReportedAt, Placed, placed}
use Rattle.mk_rules.specs.Reading.{EndsAt, IncludeSays, Leads, Point, ReadingResult, Steps, TextSays, WordSays, WordSaysBy, ended_at, line_says}
use Rattle.mk_rules.proofs.Leading.{leads_by}
use Rattle.mk_rules.proofs.LineLeads.{reported_ends}

halted : {X : Type 0} (halt : Halt) (answer : Result X Reported) → Halts halt answer → HaltsAmong halt (λ r. answer ≡ r)
halted halts.Memory answer h = tt
halted (halts.Fault fault) answer h = h

-- what tests must say where neither refuses
neither : {X : Type 0} (b c : Bool) (f g : Reported) (x y : Option X) → (if b then Err f else (if c then Err g else Ok x)) ≡ Ok y → (b ≡ false) × (c ≡ false)
neither true c f g x y h = absurd (cc)
neither false true f g x y h = absurd (cc)
neither false false f g x y h = (refl, refl)

some_room : (room : ℕ) → (room == 0) ≡ false → 0 < room
some_room room h = grind arith

some_left : (taken : ℕ) → nat_le include_limit taken ≡ false → taken < include_limit
some_left taken h = grind arith

module _ (texts : IncludeTexts) (hyphen : Bool) (room taken : ℕ) (text : Name × Cut) where
  named_left : (name : Name) (found : Option Cut) → option_map_or (opened room taken name) found (if hyphen then Ok None else Err (word_reported UnknownInclude (name ∷ []))) ≡ Ok (Some text)
      → (0 < room) × (taken < include_limit)
  named_left name None h = absurd (none hyphen h)
    where
      none : (hyphen : Bool) → (if hyphen then Ok None else Err (word_reported UnknownInclude (name ∷ []))) ≡ Ok (Some text) → ⊥
      none true h = cc
      none false h = cc
  named_left name (Some cut) h =
      let tests = neither (room == 0) (nat_le include_limit taken) _ _ (Some (name, cut)) (Some text) h in
      (some_room room tests.0, some_left taken tests.1)

  text_left : (name : Result Name Reported) → text_of_name texts hyphen room taken name ≡ Ok (Some text) → (0 < room) × (taken < include_limit)
  text_left (Err fault) h = absurd (cc)
  text_left (Ok name) h = named_left name (texts name) h

  -- a text that may open
  pub room_left : (root : List ℕ) (word : List ℕ) → word_text root texts hyphen room taken word ≡ Ok (Some text) → (0 < room) × (taken < include_limit)
  room_left root word h = text_left (word_name root word) h

module _ (root : List ℕ) (texts : IncludeTexts) (hyphen : Bool) (room : ℕ) (inner : Point → Placed → ReadingResult → Type 0) (p : Placed) (before : Macros) (at : Point) (word : List ℕ) where
  pub word_ends : (halt reported : Halt) (after : Macros) → IsReportedAt p halt reported → after ≡ before → Halts halt (word_text root texts hyphen room at.taken word)
      → EndsAt reported after (WordSays root texts hyphen room inner p before at word)
  word_ends halt reported after same kept h =
      reported_ends p halt reported before after same kept (λ r. word_text root texts hyphen room at.taken word ≡ r) (halted halt (word_text root texts hyphen room at.taken word) h) (WordSays root texts hyphen room inner p before at word)
      (λ fault says. subst (λ (w : Result (Option (Name × Cut)) Reported). WordSaysBy inner p before at w (Err (ended_at p before fault))) (sym says) refl)

  pub word_passes : word_text root texts hyphen room at.taken word ≡ Ok None → WordSays root texts hyphen room inner p before at word (Ok at)
  word_passes is = subst (λ (w : Result (Option (Name × Cut)) Reported). WordSaysBy inner p before at w (Ok at)) (sym is) refl

  pub word_opens : (name : Name) (cut : Cut) → word_text root texts hyphen room at.taken word ≡ Ok (Some (name, cut)) → (answer : ReadingResult)
      → TextSays inner (record at { taken = at.taken + 1 }) name (reported_in name cut) answer → WordSays root texts hyphen room inner p before at word answer
  word_opens name cut is answer h = subst (λ (w : Result (Option (Name × Cut)) Reported). WordSaysBy inner p before at w answer) (sym is) h

-- an include line by its words
pub include_leads : {Y : Type 0} (result : Result Y Halt) (to at : Point) (root : List ℕ) (texts : IncludeTexts) (room : ℕ) (inner : Point → Placed → ReadingResult → Type 0) (parts : IncludeParts) (p : Placed)
    (text rest : List ℕ) (hyphen : Bool) (words : List (List ℕ)) → rest ≡ parts.rest → IsExpansion at.macros rest (Ok text) → hyphen ≡ parts.hyphen → words ≡ words_of text
    → Leads result to (λ answer. Steps (WordSays root texts hyphen room inner p at.macros) at words answer) → Leads result to (IncludeSays root texts room inner parts at p)
include_leads result to at root texts room inner parts p text rest hyphen words rest_is expansion hyphen_is words_is leads =
    leads_by result to (λ answer. Steps (WordSays root texts hyphen room inner p at.macros) at words answer) (IncludeSays root texts room inner parts at p)
    (λ outcome h. (
      Ok text,
      subst (λ (r : List ℕ). IsExpansion at.macros r (Ok text)) rest_is expansion,
      subst (λ (b : Bool). Steps (WordSays root texts b room inner p at.macros) at (words_of text) outcome) hyphen_is
          (subst (λ (ws : List (List ℕ)). Steps (WordSays root texts hyphen room inner p at.macros) at ws outcome) words_is h),
    ))
    leads

-- a text by its lines
pub text_leads : {Y : Type 0} (result : Result Y Halt) (to at : Point) (root : List ℕ) (texts : IncludeTexts) (room : ℕ) → 0 < room → (name : Name) (cut : Cut) (lines : List LogicalLine) → reported_in name cut ≡ Ok lines
    → Leads result to (λ answer. Steps (line_says root texts (suc (room - 1))) at (placed (sources.Include name) lines) answer) → Leads result to (TextSays (line_says root texts room) at name (reported_in name cut))
text_leads result to at root texts room some name cut lines is leads =
    let one : suc (room - 1) ≡ room = omega arith in
    subst (λ (c : Cut). Leads result to (TextSays (line_says root texts room) at name c)) (sym is)
    (subst (λ (n : ℕ). Leads result to (λ answer. Steps (line_says root texts n) at (placed (sources.Include name) lines) answer)) one leads)
