-- How paths are spelled.
use Rattle.std.specs.Prelude.{ℕ, ◌++◌, List, [], ◌∷◌, if◌then◌else◌}
use Rattle.mk_path.specs.declared.path.Path.{Path}

-- a path's name, and a slash behind it for a tree
abbrev pub text_of : Path → List ℕ
text_of p = if p.tree then p.name ++ 47 ∷ [] else p.name
