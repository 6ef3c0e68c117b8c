-- Macros: what each name stands for (POSIX.1-2024 XCU make, "Macros").
use Rattle.std.specs.Prelude.{ℕ, Bool, true, false, List, Option, None, Some, if◌then◌else◌}
use Rattle.std.specs.Map.{lookup}
use Rattle.std.specs.Option.{option_map_or}
use Rattle.mk_name.specs.Names.{Name, same_name}
use Rattle.mk_macro.specs.declared.definition.Manner.{Manner}
use Rattle.mk_macro.specs.declared.definition.Manner.TheVariants.{Delayed, Immediate, Given}

-- a macro's definition: its value, and the manner of its making
pub record Definition : Type 0 where
  pub value : List ℕ
  pub manner : Manner

-- the definition of each name that has one
abbrev pub Macros : Type 0
Macros = Name → Option Definition

abbrev pub no_macros : Macros
no_macros = λ name. None

-- the macros with this definition in place of the one that the name had, if it had one
abbrev pub defined : Macros → Name → Definition → Macros
defined macros name definition = λ other. if same_name name other then Some definition else macros other

-- whether an operand gave a value that came in this manner
abbrev pub is_given : Manner → Bool
is_given Delayed = false
is_given Immediate = false
is_given Given = true

-- the macros with this definition, unless an operand gave the one that the name had
abbrev pub defined_unless_given : Macros → Name → Definition → Macros
defined_unless_given macros name definition =
    if option_map_or (λ old. is_given old.manner) (macros name) false then macros else defined macros name definition

-- a list of names with their definitions, as a value of the type `Macros` holds them
abbrev pub Entries : Type 0
Entries = List (Name × Definition)

-- the macros that such a list stands for
abbrev pub macros_of : Entries → Macros
macros_of entries = λ name. lookup (same_name name) entries
