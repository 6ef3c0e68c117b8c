-- One line of tasks: a label, what it stands behind, and what it reads and writes, as an object of JSON.
use Rattle.std.specs.Prelude.{ℕ, ◌&&◌, Bool, List, [], ◌∷◌, Option, None, Some, option_and_then, option_map, codes, if◌then◌else◌}
use Rattle.std.specs.List.{list_any}
use Rattle.serde_json.specs.Data.{Data, Items, no_items, item}
use Rattle.serde_json.specs.Find.{get, as_array, as_str}
use Rattle.mk_name.specs.Names.{Name, same_name}
use Rattle.mk_text.specs.Spelling.{has_path_length}
use Rattle.mk_path.specs.declared.path.Path.{Path}
use Rattle.mk_foot.specs.Json.{value_of}
use Rattle.mk_foot.specs.Lines.{paths_under}

-- what a line says: a label, the labels that it stands behind, and the paths that it reads and writes
pub record TaskLine : Type 0 where
  pub label : Name
  pub after : List Name
  pub reads : List Path
  pub writes : List Path

-- a text that is a label: any of one to 4,096 bytes
abbrev pub label_in : List ℕ → Option Name
label_in text = if has_path_length text then Some text else None

-- the label of a value, if it is such a text
abbrev pub label_of : Data → Option Name
label_of d = option_and_then label_in (as_str d)

-- the labels of a list, if each of its items is one
abbrev pub labels_in : Items → Option (List Name)
labels_in no_items = Some []
labels_in (item d ds) = option_and_then (λ x. option_map (λ xs. x ∷ xs) (labels_in ds)) (label_of d)

-- the tree of everything, in which the names of the tasks' own nodes stand
abbrev pub is_everything : Path → Bool
is_everything path = path.tree && same_name path.name (codes "/")

-- the paths, if none is that tree
abbrev pub less_than_everything : List Path → Option (List Path)
less_than_everything paths = if list_any is_everything paths then None else Some paths

-- what stands under the keys of an object
abbrev pub under_task : Data → Option Data
under_task d = get (codes "task") d

abbrev pub under_after : Data → Option Items
under_after d = option_and_then as_array (get (codes "after") d)

abbrev pub under_writes : List ℕ → Data → Option (List Path)
under_writes root d = paths_under root (codes "writes") d

-- the line that an object says; other keys mean nothing
abbrev pub line_in : List ℕ → Data → Option TaskLine
line_in root d =
    option_and_then (λ label. option_and_then (λ after. option_and_then (λ reads. option_map (λ writes.
    record { label = label; after = after; reads = reads; writes = writes })
    (option_and_then less_than_everything (under_writes root d))) (paths_under root (codes "reads") d))
    (option_and_then labels_in (under_after d))) (option_and_then label_of (under_task d))

-- the line of a physical line that is not blank
abbrev pub line_of : List ℕ → List ℕ → Option TaskLine
line_of root text = option_and_then (line_in root) (value_of text)
