-- What a text expands to (POSIX.1-2024 XCU make, "Macros", and the profile).
use Rattle.std.specs.Prelude.{◌≡◌, ℕ, ◌+◌, Bool, true, false, List, [], ◌∷◌, ◌++◌, Option, None, Some, Result, Ok, Err, length, codes, ◌==◌, ◌&&◌, ◌||◌, nat_lt, nat_le, if◌then◌else◌}
use Rattle.std.specs.List.{list_any}
use Rattle.mk_name.specs.Names.{Name, has, same_name}
use Rattle.mk_name.specs.Reported.{Reported}
use Rattle.mk_name.specs.declared.fault.Kind.{Kind}
use Rattle.mk_name.specs.declared.fault.Kind.TheVariants.{MacroLoop, BadReference, InternalMacro, ExpansionTooLarge}
use Rattle.mk_name.specs.declared.fault.Source.TheVariants.{Makefile}
use Rattle.mk_macro.specs.declared.definition.Manner.{Manner}
use Rattle.mk_macro.specs.declared.definition.Manner.TheVariants.{Delayed, Immediate, Given}
use Rattle.mk_macro.specs.Macros.{Macros, Definition}
use Rattle.mk_macro.specs.Reference.{Reference, Item, Plain, Refers, Broken}
use Rattle.mk_macro.specs.References.{items_of}
use Rattle.mk_macro.specs.Substitution.{changed}

-- one expansion may have so many references, and each text in it so many bytes
abbrev pub reference_limit : ℕ
reference_limit = 10000

abbrev pub byte_limit : ℕ
byte_limit = 65536

-- an expanded text, with the number of references up to its end
pub record Expanded : Type 0 where
  pub text : List ℕ
  pub count : ℕ

-- what an expansion comes to: a text, or a fault
abbrev pub ExpansionResult : Type 0
ExpansionResult = Result Expanded Reported

-- a fault of an expansion: who expands sets its place
abbrev pub macro_fault : Kind → List Name → Reported
macro_fault kind names = record { kind = kind; source = Makefile; place = 0; names = names }

-- the names of internal macros: one of these bytes, alone or before `D` or `F`
abbrev pub is_internal_sign : ℕ → Bool
is_internal_sign byte = list_any (λ b. b == byte) (codes "@<*?%^+")

abbrev pub is_internal : Name → Bool
is_internal [] = false
is_internal (a ∷ []) = is_internal_sign a
is_internal (a ∷ b ∷ []) = is_internal_sign a && (b == 68 || b == 70)
is_internal (a ∷ b ∷ c ∷ name) = false

-- why a reference to this macro is refused, with so many references before it, inside the values of the busy macros
abbrev pub refusal : List Name → ℕ → Name → Option Reported
refusal busy count name =
    if is_internal name then Some (macro_fault InternalMacro (name ∷ []))
    else (if nat_le reference_limit count then Some (macro_fault ExpansionTooLarge [])
    else (if has same_name busy name then Some (macro_fault MacroLoop (name ∷ []))
    else None))

-- a text, and what the next item gives: together they must keep to the limit
abbrev pub joined : List ℕ → ExpansionResult → ExpansionResult
joined text (Err fault) = Err fault
joined text (Ok next) =
    if nat_lt byte_limit (length text + length next.text) then Err (macro_fault ExpansionTooLarge [])
    else Ok (record { text = text ++ next.text; count = next.count })

-- a value once it is expanded, with the substitution of the reference to it
abbrev pub referred : Reference → ExpansionResult → ExpansionResult
referred reference (Err fault) = Err fault
referred reference (Ok value) = Ok (record { text = changed reference.change value.text; count = value.count })

-- a value that stands for itself, and one that is expanded where it is used
abbrev pub is_late : Manner → Bool
is_late Immediate = false
is_late Delayed = true
is_late Given = true

mutual
  -- what items come to, behind so many references, inside the values of the busy macros: by cases on the last item
  pub data Expands (macros : Macros) : List Name → List Item → ℕ → ExpansionResult → Type 0 where
    nothing : {busy : List Name} {count : ℕ} → Expands macros busy [] count (Ok (record { text = []; count = count }))
    failed : {busy : List Name} {items all : List Item} (item : Item) {count : ℕ} {fault : Reported}
        → Expands macros busy items count (Err fault) → all ≡ items ++ item ∷ [] → Expands macros busy all count (Err fault)
    one_more : {busy : List Name} {items all : List Item} {item : Item} {count : ℕ} {front : Expanded} {given outcome : ExpansionResult}
        → Expands macros busy items count (Ok front) → Gives macros busy item front.count given
        → all ≡ items ++ item ∷ [] → outcome ≡ joined front.text given → Expands macros busy all count outcome

  -- what one item gives there
  pub data Gives (macros : Macros) : List Name → Item → ℕ → ExpansionResult → Type 0 where
    byte : {busy : List Name} {b count : ℕ} → Gives macros busy (Plain b) count (Ok (record { text = b ∷ []; count = count }))
    broken : {busy : List Name} {count : ℕ} → Gives macros busy Broken count (Err (macro_fault BadReference []))
    refused : {busy : List Name} {reference : Reference} {count : ℕ} {fault : Reported}
        → refusal busy count reference.name ≡ Some fault → Gives macros busy (Refers reference) count (Err fault)
    undefined : {busy : List Name} {reference : Reference} {count : ℕ}
        → refusal busy count reference.name ≡ None → macros reference.name ≡ None
        → Gives macros busy (Refers reference) count (Ok (record { text = []; count = count + 1 }))
    itself : {busy : List Name} {reference : Reference} {count : ℕ} {definition : Definition} {outcome : ExpansionResult}
        → refusal busy count reference.name ≡ None → macros reference.name ≡ Some definition → is_late definition.manner ≡ false
        → outcome ≡ referred reference (Ok (record { text = definition.value; count = count + 1 }))
        → Gives macros busy (Refers reference) count outcome
    late : {busy : List Name} {reference : Reference} {count : ℕ} {definition : Definition} {inner outcome : ExpansionResult}
        → refusal busy count reference.name ≡ None → macros reference.name ≡ Some definition → is_late definition.manner ≡ true
        → Expands macros (reference.name ∷ busy) (items_of definition.value) (count + 1) inner
        → outcome ≡ referred reference inner → Gives macros busy (Refers reference) count outcome

-- the text of an outcome, or its fault
abbrev pub text_of : ExpansionResult → Result (List ℕ) Reported
text_of (Err fault) = Err fault
text_of (Ok expanded) = Ok expanded.text

-- what a text expands to under these macros, by itself
pub record IsExpansion (macros : Macros) (text : List ℕ) (answer : Result (List ℕ) Reported) : Type 0 where
  pub outcome : ExpansionResult
  pub expands : Expands macros [] (items_of text) 0 outcome
  pub answers : answer ≡ text_of outcome
