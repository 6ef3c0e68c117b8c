-- How the folders of a name are found in its text.
use Rattle.std.specs.Prelude.{◌==◌, ◌&&◌, ◌||◌, not, Bool, true, false, List, [], ◌∷◌, map, codes, if◌then◌else◌}
use Rattle.std.specs.List.{list_any}
use Rattle.mk_name.specs.Names.{Name, same_name, has}
use Rattle.mk_path.specs.declared.path.Path.{Path}
use Rattle.mk_path.specs.Paths.{cuts, same_path}
use Rattle.mk_text.specs.Spelling.{is_absolute}

-- the tree of a name, and the file
abbrev pub tree_at : Name → Path
tree_at x = record { name = x; tree = true }

abbrev pub file_at : Name → Path
file_at x = record { name = x; tree = false }

-- the tree of this name is one of the paths
abbrev pub has_tree : List Path → Name → Bool
has_tree paths x = has same_path paths (tree_at x)

-- the beginnings of a text that end before a slash
abbrev pub proper_cuts : Name → List Name
proper_cuts [] = []
proper_cuts (b ∷ bs) = if b == 47 then [] ∷ map (λ t. b ∷ t) (proper_cuts bs) else map (λ t. b ∷ t) (proper_cuts bs)

-- the folders that a text spells: its beginnings before a slash, except the empty one before a first slash
abbrev pub inner_folders : Name → List Name
inner_folders [] = []
inner_folders (b ∷ bs) = map (λ t. b ∷ t) (proper_cuts bs)

-- and the text itself
abbrev pub own_folders : Name → List Name
own_folders [] = [] ∷ []
own_folders (b ∷ bs) = map (λ t. b ∷ t) (cuts bs)

-- a tree of the paths is a folder that the root stands in, by the root spelled from the top
abbrev pub found_over_root : List Path → Name → Bool
found_over_root paths top = not (same_name top (codes "/")) && (list_any (has_tree paths) (inner_folders top) || has_tree paths (codes "/"))

-- a tree of the paths is a folder over those that the name spells
abbrev pub found_outer : List Path → Name → Name → Bool
found_outer paths top x =
    if is_absolute x then has_tree paths (codes "/") else has_tree paths (codes ".") || found_over_root paths top

-- the file of the name, or a tree that it stands in, is one of the paths
abbrev pub found : List Path → Name → Name → Bool
found paths top x =
    has same_path paths (file_at x) || ((has_tree paths x || list_any (has_tree paths) (inner_folders x)) || found_outer paths top x)
