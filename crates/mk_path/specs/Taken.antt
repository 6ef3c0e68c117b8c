-- Which names belong to another.
use Rattle.std.specs.Prelude.{ℕ, ◌&&◌, not, Bool, List}
use Rattle.mk_name.specs.Names.{Name, same_name}
use Rattle.mk_path.specs.declared.path.Path.{Path}
use Rattle.mk_path.specs.Paths.{covered}

-- a name that one of the paths covers, other than the own one
abbrev pub is_taken : List ℕ → List Path → Name → Name → Bool
is_taken root paths own x = not (same_name own x) && covered root paths x
