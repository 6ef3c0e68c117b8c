-- Rows of bits, kept in words of 64.
use Rattle.std.specs.Prelude.{ℕ, ◌≡◌, ◌/◌, ◌%◌, List, get_or}
use Rattle.std.specs.Int.{bit_at}

-- a row has the bit of a number
abbrev pub HasBit : List ℕ → ℕ → Type 0
HasBit row n = bit_at (get_or row (n / 64) 0) (n % 64) ≡ 1
