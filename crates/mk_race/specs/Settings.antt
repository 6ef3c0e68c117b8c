-- What the operands of the command line say: each names a goal, or defines a macro (POSIX.1-2024 XCU make, "Operands").
use Rattle.std.specs.Prelude.{ℕ, List, [], ◌∷◌, ◌++◌, Option, Result, Ok, Err, map, if◌then◌else◌}
use Rattle.std.specs.List.{enumerate_from}
use Rattle.std.specs.Option.{option_to_list}
use Rattle.std.specs.Result.{result_map_both}
use Rattle.mk_name.specs.Gives.{Gives}
use Rattle.mk_name.specs.declared.fault.Halt.{Halt}
use Rattle.mk_name.specs.Names.{Name}
use Rattle.mk_name.specs.Reported.{Reported}
use Rattle.mk_name.specs.declared.fault.Source.TheVariants.{Settings}
use Rattle.mk_text.specs.Spelling.{word_name}
use Rattle.mk_macro.specs.Macros.{Macros}
use Rattle.mk_macro.specs.Operands.{is_definition, operand_macros}

-- an operand that defines a macro names no goal, and any other names one; either has its fault
abbrev pub no_goal : Result Macros Reported → Result (List Name) Reported
no_goal (Ok macros) = Ok []
no_goal (Err reported) = Err reported

abbrev pub one_goal : Result Name Reported → Result (List Name) Reported
one_goal (Ok name) = Ok (name ∷ [])
one_goal (Err reported) = Err reported

abbrev pub goals_in : List ℕ → List ℕ → Result (List Name) Reported
goals_in root operand = if is_definition operand then no_goal (operand_macros (operand ∷ [])) else one_goal (word_name root operand)

-- a fault that is found in the settings, at the operand with this place
abbrev pub in_settings : ℕ → Result (List Name) Reported → Result (List Name) Reported
in_settings place (Ok names) = Ok names
in_settings place (Err reported) = Err (record reported { source = Settings; place = place })

abbrev pub goals_at : List ℕ → ℕ × List ℕ → Result (List Name) Reported
goals_at root placed = in_settings placed.0 (goals_in root placed.1)

-- names in front of others, where there is no fault
abbrev pub in_front : List Name → Result (List Name) Reported → Result (List Name) Reported
in_front names (Ok more) = Ok (names ++ more)
in_front names (Err reported) = Err reported

-- all the names, or the first fault
abbrev pub all_or_fault : List (Result (List Name) Reported) → Result (List Name) Reported
all_or_fault [] = Ok []
all_or_fault (Ok names ∷ rest) = in_front names (all_or_fault rest)
all_or_fault (Err reported ∷ rest) = Err reported

-- the goals that the operands name, whose places count from 1, or the first fault of an operand
abbrev pub goals_of : List ℕ → List (List ℕ) → Result (List Name) Reported
goals_of root operands = all_or_fault (map (goals_at root) (enumerate_from 1 operands))

-- a call gives the goals of an operand, which are one or none
abbrev pub GivesGoal : Result (Option Name) Halt → Result (List Name) Reported → Type 0
GivesGoal result answer = Gives (result_map_both option_to_list (λ halt. halt) result) answer
