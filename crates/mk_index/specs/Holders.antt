-- Numbers with the nodes that hold them.
use Rattle.std.specs.Prelude.{ℕ, ◌≡◌, ◌<◌, ◌≤◌, ◌↔◌, List, length, get_or, Contains}
use Rattle.mk_index.specs.Table.{row_of}

-- a number of 32 bits is the place of one of so many rows
abbrev pub row_limit : ℕ
row_limit = 4294967296

-- the pairs are the numbers of the first rows, each with its row's place
abbrev pub ArePairs : List (List ℕ) → ℕ → List (ℕ × ℕ) → Type 0
ArePairs rows end pairs = (t n : ℕ) → Contains pairs (t, n) ↔ ((n < end) × Contains (row_of rows n) t)

-- for each number below the count what stands beside it in the pairs
pub record AreFirsts (pairs : List (ℕ × ℕ)) (count : ℕ) (table : List (List ℕ)) : Type 0 where
  pub all : length table ≡ count
  pub beside : (t n : ℕ) → t < count → Contains (row_of table t) n ↔ Contains pairs (t, n)

-- from start on, the pairs up to an end have numbers that are at most t, and no other there
pub record IsRun (pairs : List (ℕ × ℕ)) (start end t : ℕ) : Type 0 where
  pub order : start ≤ end
  pub within : end ≤ length pairs
  pub most : (k : ℕ) (d : ℕ × ℕ) → start ≤ k → k < end → (get_or pairs k d).0 ≤ t
  pub next : (d : ℕ × ℕ) → end < length pairs → t < (get_or pairs end d).0
