-- Macros that operands of the command line define (POSIX.1-2024 XCU make, "Macros", and the profile).
use Rattle.std.specs.Prelude.{ℕ, ◌+◌, Bool, List, [], Result, Ok, Err, fold, ◌&&◌, not, if◌then◌else◌}
use Rattle.std.specs.List.{position}
use Rattle.std.specs.Option.{option_map_or}
use Rattle.mk_name.specs.Reported.{Reported}
use Rattle.mk_name.specs.declared.fault.Kind.TheVariants.{BadAssignment}
use Rattle.mk_name.specs.declared.fault.Source.TheVariants.{Settings}
use Rattle.mk_text.specs.Lexical.{is_macro_name, equals}
use Rattle.mk_macro.specs.declared.definition.Manner.TheVariants.{Given}
use Rattle.mk_macro.specs.Macros.{Macros, no_macros, defined}
use Rattle.mk_macro.specs.References.{holds, before, behind}

-- an operand with a `=` defines what stands before the first one
abbrev pub is_definition : List ℕ → Bool
is_definition operand = holds equals operand

-- a definition of what is no macro's name
abbrev pub is_bad : List ℕ → Bool
is_bad operand = is_definition operand && not (is_macro_name (before equals operand))

-- the macros and an operand's: its value is all behind the `=`, and no line changes it
abbrev pub with_operand : Macros → List ℕ → Macros
with_operand macros operand =
    if is_definition operand then defined macros (before equals operand) (record { value = behind equals operand; manner = Given })
    else macros

-- a fault of the operand at this place
abbrev pub operand_fault : ℕ → Reported
operand_fault place = record { kind = BadAssignment; source = Settings; place = place; names = [] }

-- the macros of all operands, the last of a name counting, or the fault of the first bad one; places count from 1
abbrev pub operand_macros : List (List ℕ) → Result Macros Reported
operand_macros operands =
    option_map_or (λ n. Err (operand_fault (n + 1))) (position is_bad operands) (Ok (fold with_operand no_macros operands))
