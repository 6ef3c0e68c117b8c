-- Laws of what covers what, and of which path lies over which.
use Rattle.std.specs.Prelude.{ℕ, ◌≡◌, ◌⊎◌, ◌++◌, ◌&&◌, Bool, true, false, List, [], ◌∷◌}
use Rattle.mk_name.specs.Names.{Name, has, same_name}
use Rattle.mk_path.specs.declared.path.Path.{Path}
use Rattle.mk_path.specs.Paths.{covers, folders, is_over}
use Rattle.mk_text.specs.Spelling.{full, plain_name, reduced}

-- the name x stands in the folder t, or is it
abbrev pub IsFolderOf : List ℕ → Name → Name → Type 0
IsFolderOf root t x = has same_name (folders root x) t ≡ true

-- a name stands in itself; and the folders of one of its folders are the first of its own
abbrev pub IsOwnFolder : Type 0
IsOwnFolder = (root : List ℕ) (x : Name) → IsFolderOf root x x

abbrev pub FoldersBegin : Type 0
FoldersBegin = (root : List ℕ) (x t : Name) → IsFolderOf root t x → (rest : List Name) × (folders root x ≡ folders root t ++ rest)

-- p is over q
abbrev pub IsOver : List ℕ → Path → Path → Type 0
IsOver root p q = is_over root p q ≡ true

-- p covers x
abbrev pub Covers : List ℕ → Path → Name → Type 0
Covers root p x = covers root p x ≡ true

-- each path is over itself, and over all that the paths below it are over
abbrev pub OverSelf : Type 0
OverSelf = (root : List ℕ) (p : Path) → IsOver root p p

abbrev pub OverFurther : Type 0
OverFurther = (root : List ℕ) (p q r : Path) → IsOver root p q → IsOver root q r → IsOver root p r

-- of two trees over one path one is over the other
abbrev pub TreesOverOne : Type 0
TreesOverOne = (root : List ℕ) (p q r : Path) → p.tree ≡ true → q.tree ≡ true → IsOver root p r → IsOver root q r
    → IsOver root p q ⊎ IsOver root q p

-- of two paths that cover one name one is over the other
abbrev pub PathsOfOneName : Type 0
PathsOfOneName = (root : List ℕ) (p q : Path) (x : Name) → Covers root p x → Covers root q x → IsOver root p q ⊎ IsOver root q p

-- a path covers its own name, and the name and all that is covered of each path that it is over
abbrev pub CoversOwnName : Type 0
CoversOwnName = (root : List ℕ) (p : Path) → Covers root p p.name

abbrev pub OverCoversName : Type 0
OverCoversName = (root : List ℕ) (p q : Path) → IsOver root p q → Covers root p q.name

abbrev pub OverCovers : Type 0
OverCovers = (root : List ℕ) (p q : Path) (x : Name) → IsOver root p q → Covers root q x → Covers root p x

-- the second list begins with the first
abbrev pub begins_with : List Name → List Name → Bool
begins_with [] parts = true
begins_with (part ∷ parts) [] = false
begins_with (part ∷ parts) (other ∷ others) = same_name part other && begins_with parts others

-- for plain names covering is by full components: those that the tree's path stands for are the first of those that the
-- other path stands for
abbrev pub CoversByComponents : Type 0
CoversByComponents = (root tree path : List ℕ) →
    covers root (record { name = plain_name root tree; tree = true }) (plain_name root path)
    ≡ begins_with (reduced (full root tree)) (reduced (full root path))
