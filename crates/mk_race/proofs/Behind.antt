-- A lemma on a call behind a stage that may have several answers.
use Rattle.std.proofs.Common.{Result, Ok, Err, refl}
use Rattle.mk_name.specs.Gives.{Answers, HaltsAmong}
use Rattle.mk_name.specs.Reported.{Reported}
use Rattle.mk_name.specs.declared.fault.Halt.{Halt}
use Rattle.mk_name.specs.declared.fault.Halt.TheVariants as halts
use Rattle.mk_race.specs.Stages.{ThenAny}

-- what a call answers behind a stage that gave a value is an answer of both
pub answers_behind : {X Y : Type 0} (stage : Result X Reported → Type 0) (next : X → Result Y Reported → Type 0) (value : X) (result : Result Y Halt)
    → stage (Ok value) → Answers result (next value) → Answers result (ThenAny stage next)
answers_behind stage next value (Ok answer) is answers = (Ok value, is, answers)
answers_behind stage next value (Err halts.Memory) is answers = tt
answers_behind stage next value (Err (halts.Fault reported)) is answers = (Ok value, is, answers)

-- and a halt of the first stage is one of both
pub halts_behind : {X Y : Type 0} (stage : Result X Reported → Type 0) (next : X → Result Y Reported → Type 0) (halt : Halt)
    → HaltsAmong halt stage → HaltsAmong halt (ThenAny stage next)
halts_behind stage next halts.Memory is = tt
halts_behind stage next (halts.Fault reported) is = (Err reported, is, refl)
