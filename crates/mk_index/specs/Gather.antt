-- Rows of paths that rise, united into one row.
use Rattle.std.specs.Prelude.{ℕ, zero, suc, ◌≡◌, ◌<◌, ◌+◌, ◌⊎◌, ◌++◌, ◌∷◌, [], List, Vec, length, take, Contains}
use Rattle.std.specs.Global.{Global}
use Rattle.std.specs.List.{All}
use Rattle.std.specs.List.Sorted.{IsStrictlySortedBy}
use Rattle.std.specs.declared.cmp.Ordering.{Ordering}
use Rattle.std.specs.declared.cmp.Ordering.TheVariants.{Less, Equal, Greater}
use Rattle.mk_path.specs.declared.path.Path.{Path}
use Rattle.mk_path.specs.Paths.{path_cmp, path_at}
use Rattle.mk_index.specs.Places.{ArePlaces, number_limit}

-- so many numbers, each by one above the one before it
abbrev pub upwards : ℕ → ℕ → List ℕ
upwards n zero = []
upwards n (suc k) = upwards n k ++ (n + k) ∷ []

-- the paths of each row rise
abbrev pub AreSorted : List (Vec Path Global) → Type 0
AreSorted rows = All (λ (row : Vec Path Global). IsStrictlySortedBy path_cmp row.items) rows

-- all these paths stand before one
abbrev pub AreBefore : List Path → Path → Type 0
AreBefore paths p = All (λ q. path_cmp q p ≡ Less) paths

-- two rows as one: the paths in order, each once, and the places there of those of each row
pub record IsUnion (first second paths : List Path) (firsts seconds : List ℕ) : Type 0 where
  pub rise : IsStrictlySortedBy path_cmp paths
  pub few : length paths < number_limit
  pub first_places : ArePlaces paths firsts first
  pub second_places : ArePlaces paths seconds second
  pub only : (p : Path) → Contains paths p → Contains first p ⊎ Contains second p

-- the same of as many paths of each row as have places, where all stand before those that are left
pub record IsUnited (first second paths : List Path) (firsts seconds : List ℕ) : Type 0 where
  pub rise : IsStrictlySortedBy path_cmp paths
  pub few : length paths < number_limit
  pub first_places : ArePlaces paths firsts (take (length firsts) first)
  pub second_places : ArePlaces paths seconds (take (length seconds) second)
  pub first_left : length firsts < length first → AreBefore paths (path_at first (length firsts))
  pub second_left : length seconds < length second → AreBefore paths (path_at second (length seconds))
  pub only : (p : Path) → Contains paths p → Contains first p ⊎ Contains second p

-- the row that has the next path, where so many of each are taken: the first, the second, or both
abbrev pub IsStep : List Path → List Path → ℕ → ℕ → Ordering → Type 0
IsStep first second i j Less = (i < length first) × (j < length second → path_cmp (path_at first i) (path_at second j) ≡ Less)
IsStep first second i j Greater = (j < length second) × (i < length first → path_cmp (path_at second j) (path_at first i) ≡ Less)
IsStep first second i j Equal = (i < length first) × (j < length second) × (path_at first i ≡ path_at second j)

-- the paths of a row of rows in order, each once, and the places there of all paths of the rows
pub record AreGathered (rows paths : List Path) (numbers : List ℕ) : Type 0 where
  pub rise : IsStrictlySortedBy path_cmp paths
  pub few : length paths < number_limit
  pub places : ArePlaces paths numbers rows
  pub only : (p : Path) → Contains paths p → Contains rows p
