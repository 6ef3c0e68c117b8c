-- Texts of lines that come in pieces: the lines that have ended, and what stands behind the last newline.
use Rattle.std.specs.Prelude.{◌≡◌, ℕ, List, [], ◌∷◌, ◌++◌}
use Rattle.mk_text.specs.Lexical.{physical_lines}

-- these lines of a text have ended, and this one is open
pub record IsCut (text : List ℕ) (ended : List (List ℕ)) (open_line : List ℕ) : Type 0 where
  pub whole : physical_lines text ≡ ended ++ open_line ∷ []
