-- What the key of the tables of a rulebook is made of.
use Rattle.std.specs.Prelude.{List, ◌++◌}
use Rattle.std.specs.List.{flat_map}
use Rattle.mk_name.specs.Names.{Name}
use Rattle.mk_rules.specs.Book.{Entry}

-- all names of the entries
abbrev pub names_of : List Entry → List Name
names_of entries = flat_map (λ e. e.targets ++ e.prerequisites) entries
