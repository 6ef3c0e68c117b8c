-- What a line of footprints says.
use Rattle.std.proofs.Common.{ℕ, List, ◌++◌, Option, option_map}
use Rattle.serde_json.specs.Data.{Items}
use Rattle.mk_path.specs.declared.path.Path.{Path}
use Rattle.mk_foot.specs.Lines.{paths_in}

-- the paths so far, before those of the items that are left
abbrev pub paths_with : List ℕ → List Path → Items → Option (List Path)
paths_with root paths items = option_map (λ xs. paths ++ xs) (paths_in root items)
