-- What an entry says ("Target Rules", "Special Targets", and the profile).
use Rattle.std.specs.Prelude.{◌≡◌, ℕ, Bool, List, [], ◌∷◌, Option, None, Some, Result, Ok, Err, length, find, codes, nat_lt, not, ◌==◌, ◌&&◌, ◌||◌, if◌then◌else◌}
use Rattle.std.specs.Option.{option_map_or}
use Rattle.mk_name.specs.Names.{Name, firsts, has, same_name}
use Rattle.mk_name.specs.Reported.{Reported}
use Rattle.mk_name.specs.declared.fault.Kind.{Kind}
use Rattle.mk_name.specs.declared.fault.Kind.TheVariants.{MixedSpecial, DefaultPrerequisites}
use Rattle.mk_name.specs.declared.fault.Source.TheVariants.{Makefile}
use Rattle.mk_lines.specs.Parts.{EntryParts}
use Rattle.mk_macro.specs.Macros.{Macros}
use Rattle.mk_macro.specs.Expansion.{IsExpansion}
use Rattle.mk_rules.specs.Book.{Entry}
use Rattle.mk_rules.specs.Placed.{Placed}
use Rattle.mk_rules.specs.Special.{is_special}
use Rattle.mk_rules.specs.Words.{names_in}

-- the names in an expanded text, or the fault of its expansion
abbrev pub expanded_names : List ℕ → Result (List ℕ) Reported → Result (List Name) Reported
expanded_names root (Err fault) = Err fault
expanded_names root (Ok text) = names_in root text

-- the names in what a part expands to, or its first fault
abbrev pub PartSays : List ℕ → Macros → List ℕ → Result (List Name) Reported → Type 0
PartSays root macros part answer = (text : Result (List ℕ) Reported) × IsExpansion macros part text × (answer ≡ expanded_names root text)

-- a fault of an entry: who reads its line says where it is
abbrev pub entry_reported : Kind → List Name → Reported
entry_reported kind names = record { kind = kind; source = Makefile; place = 0; names = names }

-- the first special one of several targets
abbrev pub mixed_special : List Name → Option Name
mixed_special targets = if nat_lt 1 (length targets) then find is_special targets else None

-- `.DEFAULT` has prerequisites
abbrev pub has_default_prerequisites : List Name → List Name → Bool
has_default_prerequisites targets prerequisites = not (length prerequisites == 0) && has same_name targets (codes ".DEFAULT")

-- the fault of an entry whose words are all good: a special target beside another, or else `.DEFAULT` with prerequisites
abbrev pub entry_fault : Entry → Option Reported
entry_fault e =
    option_map_or (λ name. Some (entry_reported MixedSpecial (name ∷ []))) (mixed_special e.targets)
    (if has_default_prerequisites e.targets e.prerequisites then Some (entry_reported DefaultPrerequisites []) else None)

abbrev pub checked_entry : Entry → Result Entry Reported
checked_entry e = option_map_or (λ fault. Err fault) (entry_fault e) (Ok e)

-- the entry of a line with these targets, each of which counts once, and these prerequisites: it has commands by its
-- semicolon, or by a command line right below it
abbrev pub entry_of : Placed → Bool → List Name → List Name → Entry
entry_of p has_command targets prerequisites = record {
  source = p.source;
  line = p.line.first_line;
  targets = firsts same_name targets;
  prerequisites = prerequisites;
  has_commands = has_command || p.command_below;
}

-- what the line of an entry with these parts says: the fault of its targets, else that of its prerequisites, else its own, or the entry
pub data EntrySays (root : List ℕ) (macros : Macros) (p : Placed) (parts : EntryParts) (answer : Result Entry Reported) : Type 0 where
  bad_targets : (fault : Reported) → PartSays root macros parts.targets (Err fault)
      → answer ≡ Err fault → EntrySays root macros p parts answer
  bad_prerequisites : (targets : List Name) (fault : Reported) → PartSays root macros parts.targets (Ok targets)
      → PartSays root macros parts.prerequisites (Err fault)
      → answer ≡ Err fault → EntrySays root macros p parts answer
  good_names : (targets prerequisites : List Name) → PartSays root macros parts.targets (Ok targets)
      → PartSays root macros parts.prerequisites (Ok prerequisites)
      → answer ≡ checked_entry (entry_of p parts.has_command targets prerequisites) → EntrySays root macros p parts answer
