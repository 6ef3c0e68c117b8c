-- Paths in order, and their places as numbers.
use Rattle.std.specs.Prelude.{ℕ, ◌≡◌, ◌<◌, List, [], ◌∷◌, Vec, length, map}
use Rattle.std.specs.Global.{Global}
use Rattle.std.specs.List.{All}
use Rattle.mk_path.specs.declared.path.Path.{Path}
use Rattle.mk_path.specs.Paths.{path_at}

-- no number is greater
abbrev pub number_limit : ℕ
number_limit = 4294967295

-- these numbers are the places of the paths of a row
pub record ArePlaces (paths : List Path) (numbers : List ℕ) (row : List Path) : Type 0 where
  pub within : All (λ t. t < length paths) numbers
  pub are : map (path_at paths) numbers ≡ row

-- row by row
abbrev pub AreNumbers : List Path → List (List ℕ) → List (Vec Path Global) → Type 0
AreNumbers paths [] [] = Unit {0}
AreNumbers paths [] (row ∷ rows) = ⊥
AreNumbers paths (numbers ∷ table) [] = ⊥
AreNumbers paths (numbers ∷ table) (row ∷ rows) = ArePlaces paths numbers row.items × AreNumbers paths table rows
