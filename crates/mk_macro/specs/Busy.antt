-- The macros whose values are being expanded.
use Rattle.std.specs.Prelude.{List, map, reverse}
use Rattle.mk_name.specs.Names.{Name}
use Rattle.mk_macro.specs.declared.open.Open.{Open}

-- their names, the innermost first
abbrev pub busy_names : List Open → List Name
busy_names opens = map (λ open_. open_.name.now) (reverse opens)
