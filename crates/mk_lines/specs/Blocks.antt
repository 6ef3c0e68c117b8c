-- The one way to cut the physical lines of a makefile into blocks.
use Rattle.std.specs.Prelude.{ℕ, ◌-◌, Bool, List, [], ◌∷◌, length, slice_index, ◌==◌, if◌then◌else◌}
use Rattle.mk_text.specs.Lexical.{backslash}

-- the last byte is a backslash: it escapes the newline behind it
abbrev pub ends_in_backslash : List ℕ → Bool
ends_in_backslash line = slice_index line (length line - 1) == backslash

-- the blocks, where this line is joined to the first
abbrev pub joined_to : List ℕ → List (List (List ℕ)) → List (List (List ℕ))
joined_to line [] = (line ∷ []) ∷ []
joined_to line (block ∷ blocks) = (line ∷ block) ∷ blocks

-- the longest runs of physical lines in which every line but the last ends in an escaped newline
abbrev pub blocks_of : List (List ℕ) → List (List (List ℕ))
blocks_of [] = []
blocks_of (line ∷ []) = (line ∷ []) ∷ []
blocks_of (line ∷ next ∷ lines) =
    if ends_in_backslash line then joined_to line (blocks_of (next ∷ lines)) else (line ∷ []) ∷ blocks_of (next ∷ lines)
