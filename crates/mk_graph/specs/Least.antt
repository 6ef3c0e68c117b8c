-- The least of some names.
use Rattle.std.specs.Prelude.{◌≡◌, ℕ, ◌<◌, Bool, true, false, List, Option, Some, None, get_or, IsTrue}
use Rattle.std.specs.Ordering.{is_le, nat_cmp}
use Rattle.std.specs.Cmp.Lexicographic.{slice_cmp}
use Rattle.mk_name.specs.Names.{Name}
use Rattle.mk_jobs.specs.Numbered.{name_at}

-- one name comes before another byte by byte, or is the same
abbrev pub upto : Name → Name → Bool
upto a b = is_le (slice_cmp nat_cmp a b)

-- of the first names, the number of the least that passes a test, or none passes
abbrev pub IsLeastPassing : (Name → Bool) → List Name → ℕ → Option ℕ → Type 0
IsLeastPassing test names count None = (i : ℕ) → i < count → test (name_at names i) ≡ false
IsLeastPassing test names count (Some n) = (n < count) × (test (name_at names n) ≡ true) × ((i : ℕ) → i < count → test (name_at names i) ≡ true → IsTrue (upto (name_at names n) (name_at names i)))

-- of the first places of a row, the one with the least name
abbrev pub IsLeastPlace : List Name → List ℕ → ℕ → ℕ → Type 0
IsLeastPlace names ring count least = (least < count) × ((k : ℕ) → k < count → IsTrue (upto (name_at names (get_or ring least 0)) (name_at names (get_or ring k 0))))
