-- One line of footprints: what the recipe of a target reads and writes, as an object of JSON.
use Rattle.std.specs.Prelude.{ℕ, ◌-◌, Bool, List, [], ◌∷◌, Option, Some, option_and_then, option_map, codes, length, slice_index, ◌==◌, if◌then◌else◌}
use Rattle.serde_json.specs.Data.{Data, Items, no_items, item}
use Rattle.serde_json.specs.Find.{get, as_array, as_str}
use Rattle.mk_name.specs.Names.{Name}
use Rattle.mk_path.specs.declared.path.Path.{Path}
use Rattle.mk_foot.specs.Json.{is_blank, path_named, path_under, value_of}

-- what a line says: a target, and the paths that its recipe reads and writes
pub record FootprintLine : Type 0 where
  pub target : Name
  pub reads : List Path
  pub writes : List Path

-- the last byte is a slash
abbrev pub ends_in_slash : List ℕ → Bool
ends_in_slash text = slice_index text (length text - 1) == 47

-- the path that a text spells: its name, and all that stands below it where the text's last byte is a slash
abbrev pub path_spelled : List ℕ → List ℕ → Option Path
path_spelled root text = option_map (λ name. record { name = name; tree = ends_in_slash text }) (path_named root text)

-- the path of a value, if it is a text that spells one
abbrev pub path_of : List ℕ → Data → Option Path
path_of root d = option_and_then (path_spelled root) (as_str d)

-- the paths of a list, if each of its items is one
abbrev pub paths_in : List ℕ → Items → Option (List Path)
paths_in root no_items = Some []
paths_in root (item d ds) = option_and_then (λ x. option_map (λ xs. x ∷ xs) (paths_in root ds)) (path_of root d)

-- the paths of the list under a key
abbrev pub paths_under : List ℕ → List ℕ → Data → Option (List Path)
paths_under root key d = option_and_then (paths_in root) (option_and_then as_array (get key d))

-- the line that an object says; other keys mean nothing
abbrev pub line_in : List ℕ → Data → Option FootprintLine
line_in root d =
    option_and_then (λ target. option_and_then (λ reads. option_map (λ writes. record { target = target; reads = reads; writes = writes })
    (paths_under root (codes "writes") d)) (paths_under root (codes "reads") d)) (path_under root (codes "target") d)

-- the lines that a physical line says: none where it is blank, one where it is such an object; any other is bad
abbrev pub lines_in : List ℕ → List ℕ → Option (List FootprintLine)
lines_in root text = if is_blank text then Some [] else option_map (λ line. line ∷ []) (option_and_then (line_in root) (value_of text))
