-- Tables: lists of numbers that stand one behind the other.
use Rattle.std.specs.Prelude.{ℕ, ◌≡◌, ◌-◌, ◌≤◌, List, [], ◌∷◌, take, drop}

-- the rows of numbers, of which the first begins here, by the places where they end
abbrev pub rows_from : ℕ → List ℕ → List ℕ → List (List ℕ)
rows_from start numbers [] = []
rows_from start numbers (end ∷ ends) = take (end - start) (drop start numbers) ∷ rows_from end numbers ends

-- no row ends before it begins, and the last one ends at this place
abbrev pub AreEnds : ℕ → ℕ → List ℕ → Type 0
AreEnds start last [] = start ≡ last
AreEnds start last (end ∷ ends) = (start ≤ end) × AreEnds end last ends
