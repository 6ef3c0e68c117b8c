-- References to macros (POSIX.1-2024 XCU make, "Macros").
use Rattle.std.specs.Prelude.{ℕ, List, Option}

-- a substitution: what stands at the end of a word, and what comes in its place
pub record Change : Type 0 where
  pub from : List ℕ
  pub to : List ℕ

-- a reference to the macro of this name, with its substitution where it has one
pub record Reference : Type 0 where
  pub name : List ℕ
  pub change : Option Change

-- an item of a text: a byte that stands for itself, a reference, or one with a wrong form
pub data Item : Type 0 where
  Plain : ℕ → Item
  Refers : Reference → Item
  Broken : Item
