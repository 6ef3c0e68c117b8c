-- What a call promises that gives a value, a fault or out of memory.
use Rattle.std.specs.Prelude.{◌≡◌, ℕ, Result, Ok, Err}
use Rattle.mk_name.specs.Reported.{Reported}
use Rattle.mk_name.specs.declared.fault.Halt.{Halt}
use Rattle.mk_name.specs.declared.fault.Halt.TheVariants as halts
use Rattle.mk_name.specs.declared.fault.Source.{Source}

-- out of memory may come in place of any answer; a fault is the answer's own
abbrev pub Halts : {Y : Type 0} → Halt → Result Y Reported → Type 0
Halts halts.Memory answer = Unit {0}
Halts (halts.Fault fault) answer = answer ≡ Err fault

-- a call gives this value or this fault, unless memory ran out
abbrev pub Gives : {Y : Type 0} → Result Y Halt → Result Y Reported → Type 0
Gives (Ok value) answer = answer ≡ Ok value
Gives (Err halt) answer = Halts halt answer

-- out of memory may come in place of any answer; a fault is one of the answers
abbrev pub HaltsAmong : {Y : Type 0} → Halt → (Result Y Reported → Type 0) → Type 0
HaltsAmong halts.Memory answers = Unit {0}
HaltsAmong (halts.Fault fault) answers = answers (Err fault)

-- a call gives a value or a fault that is one of the answers, unless memory ran out
abbrev pub Answers : {Y : Type 0} → Result Y Halt → (Result Y Reported → Type 0) → Type 0
Answers (Ok value) answers = answers (Ok value)
Answers (Err halt) answers = HaltsAmong halt answers

-- the same halt, where a fault is reported in this source, at this place
abbrev pub halt_at : Source → ℕ → Halt → Halt
halt_at source place halts.Memory = halts.Memory
halt_at source place (halts.Fault fault) = halts.Fault (record fault { source = source; place = place })
