-- One line of tasks that may say when its task is due: the file that it makes, and the files that make it run.
use Rattle.std.specs.Prelude.{ℕ, ◌||◌, Bool, List, [], ◌∷◌, Option, None, Some, option_and_then, option_map, codes, is_some, if◌then◌else◌}
use Rattle.serde_json.specs.Data.{Data, Items, no_items, item}
use Rattle.serde_json.specs.Find.{get, as_array, as_str}
use Rattle.mk_name.specs.Names.{Name}
use Rattle.mk_foot.specs.Json.{path_named, path_under, value_of}
use Rattle.mk_task.specs.Lines as tasks

-- the file that a task makes, and the files that make it run where they are newer or absent
pub record Due : Type 0 where
  pub makes : Name
  pub needs : List Name

-- what a line says: what each line of tasks does, and when its task is due, unless that always runs
pub record DueLine : Type 0 where
  pub task : tasks.TaskLine
  pub due : Option Due

-- the names that the texts of a list spell, if each of its items is such a text
abbrev pub names_in : List ℕ → Items → Option (List Name)
names_in root no_items = Some []
names_in root (item d ds) =
    option_and_then (λ x. option_map (λ xs. x ∷ xs) (names_in root ds)) (option_and_then (path_named root) (as_str d))

-- the names of the list under a key
abbrev pub names_under : List ℕ → List ℕ → Data → Option (List Name)
names_under root key d = option_and_then (names_in root) (option_and_then as_array (get key d))

-- an object has a key
abbrev pub has_key : List ℕ → Data → Bool
has_key key d = is_some (get key d)

-- what the two keys say together
abbrev pub due_under : List ℕ → Data → Option Due
due_under root d =
    option_and_then (λ makes. option_map (λ needs. record { makes = makes; needs = needs }) (names_under root (codes "needs") d))
    (path_under root (codes "makes") d)

-- when the task of an object is due: both keys say it, and with neither it always runs; one alone is bad
abbrev pub due_in : List ℕ → Data → Option (Option Due)
due_in root d = if has_key (codes "makes") d || has_key (codes "needs") d then option_map Some (due_under root d) else Some None

-- the line that an object says
abbrev pub line_in : List ℕ → Data → Option DueLine
line_in root d =
    option_and_then (λ task. option_map (λ due. record { task = task; due = due }) (due_in root d)) (tasks.line_in root d)

-- the line of a physical line that is not blank
abbrev pub line_of : List ℕ → List ℕ → Option DueLine
line_of root text = option_and_then (line_in root) (value_of text)
