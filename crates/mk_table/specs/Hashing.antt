-- What the key of tables of names is made of.
use Rattle.std.specs.Prelude.{ℕ, List, [], ◌∷◌, ◌++◌}
use Rattle.std.specs.List.{flat_map}
use Rattle.mk_name.specs.Names.{Name}

-- the names, each ended by a newline
abbrev pub key_text : List Name → List ℕ
key_text names = flat_map (λ name. name ++ 10 ∷ []) names
