-- What comes of a reference, and of a text that would be longer than it may be.
use Rattle.std.specs.Prelude.{◌≡◌, ◌⊎◌, ◌≤◌, ◌<◌, ◌+◌, ℕ, true, false, List, [], Option, None, Some, length}
use Rattle.mk_name.specs.Reported.{Reported}
use Rattle.mk_name.specs.declared.fault.Halt.{Halt}
use Rattle.mk_name.specs.declared.fault.Halt.TheVariants as halts
use Rattle.mk_name.specs.declared.fault.Kind.TheVariants.{ExpansionTooLarge}
use Rattle.mk_macro.specs.Expansion.{byte_limit, is_late, macro_fault}
use Rattle.mk_macro.specs.Layer.{Output, OutputHolds, Puts, Text}
use Rattle.mk_macro.specs.Macros.{Definition}
use Rattle.mk_macro.specs.Reference.{Change}
use Rattle.mk_macro.specs.References.{holds}
use Rattle.mk_macro.specs.Substitution.{changed}
use Rattle.mk_lines.specs.Outside.{dollar}

-- memory ran out, or a text of this length is refused for it is over the limit
abbrev pub IsOver : Halt → ℕ → ℕ → Type 0
IsOver halts.Memory limit length = Unit {0}
IsOver (halts.Fault fault) limit length = (fault ≡ macro_fault ExpansionTooLarge []) × (limit < length)

-- memory ran out, or this is the refusal's fault
abbrev pub IsRefusal : Halt → Option Reported → Type 0
IsRefusal halts.Memory refusal = Unit {0}
IsRefusal (halts.Fault fault) refusal = refusal ≡ Some fault

-- memory ran out, or so much more does not fit into the innermost text
abbrev pub IsTooMuch : Output → List ℕ → Halt → Type 0
IsTooMuch output more halt =
    (text : Text) (texts : List Text) → OutputHolds output text texts → IsOver halt byte_limit (length text.own + length more)

-- a value stands for itself: it is never expanded; or it has no dollar sign, and no more bytes than a text may have
abbrev pub IsFinal : Definition → Type 0
IsFinal d = (is_late d.manner ≡ false) ⊎ ((length d.value ≤ byte_limit) × (holds dollar d.value ≡ false))

-- what a reference to such a macro leaves: nothing new, the changed value, or all as it was and the value that is to be expanded
abbrev pub IsReferred : Option Definition → Option Change → Output → Output → Option (List ℕ) → Type 0
IsReferred None change old new None = new ≡ old
IsReferred None change old new (Some value) = ⊥
IsReferred (Some d) change old new None = IsFinal d × Puts old new (changed change d.value)
IsReferred (Some d) change old new (Some value) = (is_late d.manner ≡ true) × (value ≡ d.value) × (new ≡ old)

-- a changed value is too long behind the innermost text
abbrev pub IsOverReferred : Option Definition → Option Change → Output → Halt → Type 0
IsOverReferred None change old halt = ⊥
IsOverReferred (Some d) change old halt = IsFinal d × IsTooMuch old (changed change d.value) halt
