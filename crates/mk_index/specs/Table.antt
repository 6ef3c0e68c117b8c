-- Rows of numbers, kept in one list.
use Rattle.std.specs.Prelude.{ℕ, zero, suc, ◌≡◌, ◌≤◌, ◌-◌, List, [], ◌∷◌, take, drop, get_or}

-- the rows of a list of numbers: each ends at its place, and begins where the one before it ends
abbrev pub rows_from : ℕ → List ℕ → List ℕ → List (List ℕ)
rows_from start [] numbers = []
rows_from start (end ∷ ends) numbers = take (end - start) (drop start numbers) ∷ rows_from end ends numbers

-- the places rise, and the last is where the numbers end
abbrev pub AreEnds : ℕ → List ℕ → ℕ → Type 0
AreEnds start [] last = start ≡ last
AreEnds start (end ∷ ends) last = (start ≤ end) × AreEnds end ends last

-- where the row at a place begins, the first at `start`
abbrev pub start_from : ℕ → List ℕ → ℕ → ℕ
start_from start ends zero = start
start_from start ends (suc i) = get_or ends i 0

-- the row at a place; none of the numbers stand past the last
abbrev pub row_of : List (List ℕ) → ℕ → List ℕ
row_of rows i = get_or rows i []
