-- What a line leads to, by its kind.
use Rattle.std.proofs.Common.{◌≡◌, ℕ, suc, List, [], ◌∷◌, ◌++◌, Result, Ok, Err, refl, sym, subst, ap}
use Rattle.mk_name.specs.Gives.{HaltsAmong}
use Rattle.mk_name.specs.Reported.{Reported}
use Rattle.mk_name.specs.declared.fault.Halt.{Halt}
use Rattle.mk_name.specs.declared.fault.Halt.TheVariants as halts
use Rattle.mk_lines.specs.LogicalLine.{parts_of}
use Rattle.mk_lines.specs.Parts.{EntryParts, IncludeParts}
use Rattle.mk_lines.specs.declared.parts.Parts.{Parts}
use Rattle.mk_macro.specs.Assignments.{IsAssignment}
use Rattle.mk_macro.specs.Expansion.{IsExpansion}
use Rattle.mk_macro.specs.Macros.{Entries, Macros, macros_of}
use Rattle.mk_include.specs.Includes.{IncludeTexts}
use Rattle.mk_rules.specs.Book.{Entry}
use Rattle.mk_rules.specs.Entries.{EntrySays}
use Rattle.mk_rules.specs.Placed.{IsReportedAt, Placed}
use Rattle.mk_rules.specs.Reading.{AssignmentSays, EndsAt, EntryLineSays, IncludeSays, Leads, Point, ReadingResult, SaysBy, ended_at, line_says, point}

-- what stops a line is reported at it, and leaves these macros
pub reported_ends : {X : Type 0} (p : Placed) (halt reported : Halt) (before after : Macros) → IsReportedAt p halt reported → after ≡ before → (says : Result X Reported → Type 0) → HaltsAmong halt says
    → (one : ReadingResult → Type 0) → ((fault : Reported) → says (Err fault) → one (Err (ended_at p before fault))) → EndsAt reported after one
reported_ends p halt halts.Memory before after same kept says h one to = tt
reported_ends p halt (halts.Fault t) before after same kept says h one to =
    let stopped : HaltsAmong (halts.Fault same.0) says = subst (λ (x : Halt). HaltsAmong x says) same.1 h in
    let leaves = λ (fault : Reported) (macros : Macros). one (Err (record { fault = fault; macros = macros })) in
    subst (λ (macros : Macros). leaves t macros) (sym kept) (subst (λ (fault : Reported). leaves fault before) (sym same.2) (to same.0 stopped))

module _ (p : Placed) (entries : List Entry) (taken : ℕ) (macros : Entries) where
  pub assignment_ends : (halt reported : Halt) (after : Macros) → IsReportedAt p halt reported → after ≡ macros_of macros → HaltsAmong halt (IsAssignment (macros_of macros) p.line)
      → EndsAt reported after (AssignmentSays (point entries taken macros) p)
  assignment_ends halt reported after same kept h =
      reported_ends p halt reported (macros_of macros) after same kept (IsAssignment (macros_of macros) p.line) h (AssignmentSays (point entries taken macros) p) (λ fault says. (Err fault, says, refl))

  pub assignment_leads : (after : Entries) → IsAssignment (macros_of macros) p.line (Ok (macros_of after)) → AssignmentSays (point entries taken macros) p (Ok (point entries taken after))
  assignment_leads after h = (Ok (macros_of after), h, refl)

  pub entry_ends : (root : List ℕ) (parts : EntryParts) (halt reported : Halt) → IsReportedAt p halt reported → HaltsAmong halt (EntrySays root (macros_of macros) p parts)
      → EndsAt reported (macros_of macros) (EntryLineSays root parts (point entries taken macros) p)
  entry_ends root parts halt reported same h =
      reported_ends p halt reported (macros_of macros) (macros_of macros) same refl (EntrySays root (macros_of macros) p parts) h (EntryLineSays root parts (point entries taken macros) p) (λ fault says. (Err fault, says, refl))

  pub entry_leads : (root : List ℕ) (parts : EntryParts) (entry : Entry) (new : List Entry) → new ≡ entries ++ entry ∷ [] → EntrySays root (macros_of macros) p parts (Ok entry)
      → EntryLineSays root parts (point entries taken macros) p (Ok (point new taken macros))
  entry_leads root parts entry new is h = (Ok entry, h, ap (λ (es : List Entry). Ok (point es taken macros)) is)

  pub rest_ends : (root : List ℕ) (texts : IncludeTexts) (room : ℕ) (inner : Point → Placed → ReadingResult → Type 0) (parts : IncludeParts) (halt reported : Halt) → IsReportedAt p halt reported
      → HaltsAmong halt (IsExpansion (macros_of macros) parts.rest) → EndsAt reported (macros_of macros) (IncludeSays root texts room inner parts (point entries taken macros) p)
  rest_ends root texts room inner parts halt reported same h =
      reported_ends p halt reported (macros_of macros) (macros_of macros) same refl (IsExpansion (macros_of macros) parts.rest) h (IncludeSays root texts room inner parts (point entries taken macros) p)
      (λ fault says. (Err fault, says, refl))

-- a line of these parts
pub by_parts : {Y : Type 0} (result : Result Y Halt) (to at : Point) (parts : Parts) (root : List ℕ) (texts : IncludeTexts) (room : ℕ) (p : Placed) → parts ≡ parts_of p.line
    → Leads result to (SaysBy parts root texts room (line_says root texts room) at p) → Leads result to (line_says root texts (suc room) at p)
by_parts result to at parts root texts room p is h = subst (λ (q : Parts). Leads result to (SaysBy q root texts room (line_says root texts room) at p)) is h
