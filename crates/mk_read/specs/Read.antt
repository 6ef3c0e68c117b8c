-- What was read of a device to its end.
use Rattle.std.specs.Prelude.{◌≡◌, ℕ, List, Option, Result, Ok}
use Rattle.std.specs.Io.KnownBytes.{Consumes, IsAtEnd}
use Rattle.mk_name.specs.Reported.{Reported}
use Rattle.mk_text.specs.Spelling.{root_of}

-- a device was read to its end, and gave these bytes: where it states what it has left, they are all that it had
pub record GaveAll (old new : Option (List ℕ)) (bytes : List ℕ) : Type 0 where
  pub gave : Consumes old new bytes
  pub end : IsAtEnd new

-- what was read of a text that says this below the root, if the root is good
abbrev pub IsReadBelow : {X : Type 0} → (List ℕ → List ℕ → Result X Reported → Type 0) → List ℕ → List ℕ → Result X Reported → Type 0
IsReadBelow Says root text read = (below : List ℕ) → root_of root ≡ Ok below → Says below text read
