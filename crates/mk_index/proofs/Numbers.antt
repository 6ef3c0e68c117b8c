-- Rows of numbers of paths.
use Rattle.std.proofs.Common.{ℕ, List, [], ◌∷◌, ◌++◌, Vec}
use Rattle.std.specs.Global.{Global}
use Rattle.mk_path.specs.declared.path.Path.{Path}
use Rattle.mk_index.specs.Places.{AreNumbers, ArePlaces}

-- row by row
pub numbers_more : (paths : List Path) (table : List (List ℕ)) (rows : List (Vec Path Global)) (numbers : List ℕ) (row : Vec Path Global)
    → AreNumbers paths table rows → ArePlaces paths numbers row.items → AreNumbers paths (table ++ numbers ∷ []) (rows ++ row ∷ [])
numbers_more paths [] [] numbers row are places = (places, tt)
numbers_more paths [] (r ∷ rows) numbers row are places = absurd are
numbers_more paths (ns ∷ table) [] numbers row are places = absurd are
numbers_more paths (ns ∷ table) (r ∷ rows) numbers row are places = (are.0, numbers_more paths table rows numbers row are.1 places)
