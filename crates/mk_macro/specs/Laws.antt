-- What is so of every expansion.
use Rattle.std.specs.Prelude.{◌≡◌, ℕ, List, Result}
use Rattle.mk_name.specs.Names.{Name}
use Rattle.mk_name.specs.Reported.{Reported}
use Rattle.mk_macro.specs.Expansion.{Expands, ExpansionResult, IsExpansion}
use Rattle.mk_macro.specs.Macros.{Macros}
use Rattle.mk_macro.specs.Reference.{Item}

-- items come to no two outcomes
abbrev pub ItemsComeToOne : Type 0
ItemsComeToOne = (macros : Macros) (busy : List Name) (items : List Item) (count : ℕ) (one other : ExpansionResult)
    → Expands macros busy items count one → Expands macros busy items count other → one ≡ other

-- a text has no two expansions
abbrev pub ExpansionIsUnique : Type 0
ExpansionIsUnique = (macros : Macros) (text : List ℕ) (one other : Result (List ℕ) Reported)
    → IsExpansion macros text one → IsExpansion macros text other → one ≡ other

-- a text has an expansion: a text or a fault
abbrev pub EachTextExpands : Type 0
EachTextExpands = (macros : Macros) (text : List ℕ) → (answer : Result (List ℕ) Reported) × IsExpansion macros text answer
