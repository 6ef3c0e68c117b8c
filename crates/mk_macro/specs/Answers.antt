-- What a call says that gives a text, or nothing but what it leaves.
use Rattle.std.specs.Prelude.{ℕ, List, Result, Vec}
use Rattle.std.specs.Global.{Global}
use Rattle.std.specs.Result.{result_map_both}
use Rattle.mk_name.specs.Reported.{Reported}
use Rattle.mk_name.specs.Gives.{Answers, Gives}
use Rattle.mk_macro.specs.Macros.{Entries, Macros, macros_of}
use Rattle.mk_name.specs.declared.fault.Halt.{Halt}

-- a call gives a text or a fault that is such an answer, unless memory ran out
abbrev pub AnswersText : Result (Vec ℕ Global) Halt → (Result (List ℕ) Reported → Type 0) → Type 0
AnswersText result answers = Answers (result_map_both (λ text. text.items) (λ halt. halt) result) answers

-- a call leaves a value or gives a fault that is such an answer, unless memory ran out
abbrev pub AnswersLeft : {X Y : Type 0} → Result Y Halt → X → (Result X Reported → Type 0) → Type 0
AnswersLeft result left answers = Answers (result_map_both (λ _. left) (λ halt. halt) result) answers

-- a call gives the macros that are this answer, or its fault, unless memory ran out
abbrev pub GivesMacros : Result Entries Halt → Result Macros Reported → Type 0
GivesMacros result answer = Gives (result_map_both macros_of (λ halt. halt) result) answer
