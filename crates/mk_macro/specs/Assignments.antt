-- What an assignment does (POSIX.1-2024 XCU make, "Macros", and the profile).
use Rattle.std.specs.Prelude.{◌≡◌, ℕ, List, [], ◌∷◌, ◌++◌, Option, None, Some, Result, Ok}
use Rattle.std.specs.Result.{result_map_both}
use Rattle.mk_name.specs.Names.{Name}
use Rattle.mk_name.specs.Reported.{Reported}
use Rattle.mk_lines.specs.LogicalLine.{LogicalLine, parts_of}
use Rattle.mk_lines.specs.declared.parts.Parts.{Parts}
use Rattle.mk_lines.specs.declared.parts.Parts.TheVariants.{Assign, Entry, Recipe, Include}
use Rattle.mk_lines.specs.declared.line.Operator.{Operator}
use Rattle.mk_lines.specs.declared.line.Operator.TheVariants as operators
use Rattle.mk_macro.specs.declared.definition.Manner.{Manner}
use Rattle.mk_macro.specs.declared.definition.Manner.TheVariants.{Delayed, Immediate, Given}
use Rattle.mk_macro.specs.Expansion.{IsExpansion}
use Rattle.mk_macro.specs.Macros.{Macros, Definition, defined}

-- what an assignment does to its macro: it stays, it is defined so, or it gets as its fixed value this front and then the expansion of this text
pub data Effect : Type 0 where
  Stays : Effect
  Becomes : Definition → Effect
  Fixes : List ℕ → List ℕ → Effect

-- a macro whose value is expanded where it is used
abbrev pub delayed : List ℕ → Definition
delayed value = record { value = value; manner = Delayed }

-- a macro whose value is never expanded again
abbrev pub immediate : List ℕ → Definition
immediate value = record { value = value; manner = Immediate }

-- the effect on a name that stands for nothing yet
abbrev pub first_effect : Operator → List ℕ → Effect
first_effect operators.Delayed text = Becomes (delayed text)
first_effect operators.Immediate text = Fixes [] text
first_effect operators.Append text = Becomes (delayed text)
first_effect operators.Conditional text = Becomes (delayed text)

-- what `+=` does to a value: one space and the text are added, and the text is expanded first where the value never is
abbrev pub append_effect : Manner → List ℕ → List ℕ → Effect
append_effect Delayed value text = Becomes (delayed (value ++ 32 ∷ text))
append_effect Immediate value text = Fixes (value ++ 32 ∷ []) text
append_effect Given value text = Stays

-- the effect on a macro: an operand's stays (profile), and so does any under `?=`
abbrev pub effect_on : Manner → List ℕ → Operator → List ℕ → Effect
effect_on Given value operator text = Stays
effect_on Delayed value operators.Append text = append_effect Delayed value text
effect_on Immediate value operators.Append text = append_effect Immediate value text
effect_on manner value operators.Conditional text = Stays
effect_on manner value operators.Delayed text = first_effect operators.Delayed text
effect_on manner value operators.Immediate text = first_effect operators.Immediate text

-- the effect of an operator and a text on what a name stands for
abbrev pub effect : Option Definition → Operator → List ℕ → Effect
effect None operator text = first_effect operator text
effect (Some old) operator text = effect_on old.manner old.value operator text

-- the macros that an effect on this name leads to, or its fault
abbrev pub LeadsTo : Macros → Name → Effect → Result Macros Reported → Type 0
LeadsTo macros name Stays answer = answer ≡ Ok macros
LeadsTo macros name (Becomes definition) answer = answer ≡ Ok (defined macros name definition)
LeadsTo macros name (Fixes front text) answer =
    (value : Result (List ℕ) Reported)
    × IsExpansion macros text value
    × (answer ≡ result_map_both (λ v. defined macros name (immediate (front ++ v))) (λ fault. fault) value)

-- the macros behind an assignment of this text to this name, or its fault
abbrev pub IsAssigned : Macros → Name → Operator → List ℕ → Result Macros Reported → Type 0
IsAssigned macros name operator text answer = LeadsTo macros name (effect (macros name) operator text) answer

-- the macros behind a line of these parts, or its fault: only an assignment changes any
abbrev pub IsBehind : Parts → Macros → Result Macros Reported → Type 0
IsBehind (Assign parts) macros answer = IsAssigned macros parts.name parts.operator parts.value answer
IsBehind (Entry parts) macros answer = answer ≡ Ok macros
IsBehind Recipe macros answer = answer ≡ Ok macros
IsBehind (Include parts) macros answer = answer ≡ Ok macros

-- the macros behind a line, or its fault
abbrev pub IsAssignment : Macros → LogicalLine → Result Macros Reported → Type 0
IsAssignment macros line answer = IsBehind (parts_of line) macros answer
