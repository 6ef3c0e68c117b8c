-- What an opener states of files. A file may be read where nothing states that it cannot; it may fail where nothing states that it can.
use Rattle.std.specs.Prelude.{ℕ, Bool, List, Option}

-- of each path: the bytes that its file holds, whether it can be opened, and whether it can be read to its end once it is
-- open; where that is stated
pub record Files : Type 0 where
  pub text : List ℕ → Option (List ℕ)
  pub opens : List ℕ → Option Bool
  pub reads : List ℕ → Option Bool
