-- Marks in a row of bits.
use Rattle.std.specs.Prelude.{ℕ, List, Contains}
use Rattle.mk_index.specs.Bits.{HasBit}

-- each of these has its bit
abbrev pub AreMarked : List ℕ → List ℕ → Type 0
AreMarked row nodes = (a : ℕ) → Contains nodes a → HasBit row a
