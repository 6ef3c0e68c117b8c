-- Paths of footprints: which names each covers, and which lies over which.
use Rattle.std.specs.Prelude.{ℕ, ◌==◌, ◌&&◌, ◌||◌, ◌++◌, Bool, false, List, [], ◌∷◌, map, drop, get_or, codes, not, if◌then◌else◌}
use Rattle.std.specs.Cmp.Lexicographic.{slice_cmp}
use Rattle.std.specs.List.{list_any}
use Rattle.std.specs.declared.cmp.Ordering.{Ordering}
use Rattle.std.specs.Ordering.{bool_cmp, nat_cmp, ordering_then}
use Rattle.mk_name.specs.Names.{Name, same_name, has}
use Rattle.mk_path.specs.declared.path.Path.{Path}
use Rattle.mk_text.specs.Spelling.{is_absolute, top_of, without_last}

-- by name, and of one name the file before the tree
abbrev pub path_cmp : Path → Path → Ordering
path_cmp p q = ordering_then (slice_cmp nat_cmp p.name q.name) (bool_cmp p.tree q.tree)

-- both name the same, and both are trees or neither is
abbrev pub same_path : Path → Path → Bool
same_path p q = same_name p.name q.name && (if p.tree then q.tree else not q.tree)

-- the beginnings of a text that end before a slash, and the text itself
abbrev pub cuts : Name → List Name
cuts [] = [] ∷ []
cuts (b ∷ bs) = if b == 47 then [] ∷ map (λ t. b ∷ t) (cuts bs) else map (λ t. b ∷ t) (cuts bs)

-- the folders of a text that begins with a slash, from the top down to the text itself
abbrev pub absolute_folders : Name → List Name
absolute_folders x = if same_name x (codes "/") then codes "/" ∷ [] else codes "/" ∷ drop 1 (cuts x)

-- the folders that the root stands in
abbrev pub over_root : List ℕ → List Name
over_root root = if same_name (top_of root) (codes "/") then [] else without_last (absolute_folders (top_of root))

-- the folders that a name stands in, from the top down, and the name itself: a name that begins with a slash stands in
-- those that it spells, and any other below the root `.`
abbrev pub folders : List ℕ → Name → List Name
folders root x = if is_absolute x then absolute_folders x
    else over_root root ++ codes "." ∷ (if same_name x (codes ".") then [] else cuts x)

-- a tree covers what stands in its folder, and the folder's own name; a file covers its own name
abbrev pub covers : List ℕ → Path → Name → Bool
covers root p x = if p.tree then has same_name (folders root x) p.name else same_name p.name x

-- one of the paths covers the name
abbrev pub covered : List ℕ → List Path → Name → Bool
covered root paths x = list_any (λ p. covers root p x) paths

-- p is q, or a tree that q's name stands in
abbrev pub is_over : List ℕ → Path → Path → Bool
is_over root p q = same_path p q || (p.tree && covers root p q.name)

-- the path at a place
abbrev pub path_at : List Path → ℕ → Path
path_at paths t = get_or paths t (record { name = []; tree = false })
