-- The nearest tree over a path.
use Rattle.std.specs.Prelude.{ℕ, ◌≡◌, ◌<◌, ◌+◌, ◌↔◌, ◌⊎◌, Bool, true, false, List, length, take, get_or, codes, Option, Some, None, if◌then◌else◌}
use Rattle.std.specs.List.{filter}
use Rattle.std.specs.List.Sorted.{IsStrictlySortedBy}
use Rattle.mk_name.specs.Names.{Name, same_name}
use Rattle.mk_path.specs.declared.path.Path.{Path}
use Rattle.mk_path.specs.Covering.{tree_at}
use Rattle.mk_path.specs.Laws.{IsFolderOf}
use Rattle.mk_path.specs.Paths.{is_over, path_cmp, path_at}
use Rattle.mk_index.specs.Places.{number_limit}
use Rattle.mk_index.specs.Ups.{Ups, IsUp, number_count}
use Rattle.mk_text.specs.Spelling.{is_absolute}

-- the path is a tree
abbrev pub is_tree : Path → Bool
is_tree p = p.tree

-- paths in order, each with a number
pub record ArePaths (paths : List Path) : Type 0 where
  pub rise : IsStrictlySortedBy path_cmp paths
  pub few : length paths < number_limit

-- and the trees among them
pub record AreTrees (paths trees : List Path) : Type 0 where
  pub paths_are : ArePaths paths
  pub trees_are : trees ≡ filter is_tree paths

-- this number is that of the tree with a name
abbrev pub IsTreeAt : List Path → ℕ → Name → Type 0
IsTreeAt paths u name = (u < length paths) × (path_at paths u ≡ tree_at name)

-- u is the number of a tree with one of some names; each other of these names that a tree has is a folder of it
pub record IsInnermost (root : List ℕ) (paths : List Path) (among : Name → Type 0) (u : ℕ) : Type 0 where
  pub name : Name
  pub one : among name
  pub tree : IsTreeAt paths u name
  pub folder : (v : ℕ) (y : Name) → among y → IsTreeAt paths v y → IsFolderOf root y name

-- it is found; or no tree has one of these names
abbrev pub FindsTree : List ℕ → List Path → (Name → Type 0) → Option ℕ → Type 0
FindsTree root paths among None = (v : ℕ) (y : Name) → among y → IsTreeAt paths v y → ⊥
FindsTree root paths among (Some u) = IsInnermost root paths among u

-- y is what x begins with before a slash, which is not its first byte
pub record IsInner (x y : Name) : Type 0 where
  pub place : ℕ
  pub some : 0 < place
  pub less : place < length x
  pub slash : get_or x place 0 ≡ 47
  pub is : y ≡ take place x

-- y is a folder, which is not the name x
abbrev pub IsOther : Name → Name → Name → Type 0
IsOther x folder y = (x ≡ folder → ⊥) × (y ≡ folder)

-- y is a folder of a text that begins with a slash, and not the text
abbrev pub IsOverText : Name → Name → Type 0
IsOverText text y = IsInner text y ⊎ IsOther text (codes "/") y

-- y is a folder of x that x does not spell, where the root has this spelling from the top
abbrev pub IsOuter : Name → Name → Name → Type 0
IsOuter top x y = ((is_absolute x ≡ true) × IsOther x (codes "/") y) ⊎ ((is_absolute x ≡ false) × (IsOther x (codes ".") y ⊎ IsOverText top y))

-- y is a folder of x, and not x
abbrev pub IsOverName : Name → Name → Name → Type 0
IsOverName top x y = IsInner x y ⊎ IsOuter top x y

-- y is the name of a file
abbrev pub IsOwn : Path → Name → Type 0
IsOwn p y = (p.tree ≡ false) × (y ≡ p.name)

-- y is a folder of a path's name, and the tree y is not the path
abbrev pub IsOverPath : List ℕ → Path → Name → Type 0
IsOverPath root p y = IsFolderOf root y p.name × (p.tree ≡ true → y ≡ p.name → ⊥)

-- u is the nearest tree over path t, or t where none is
abbrev pub IsNext : List ℕ → List Path → ℕ → ℕ → Type 0
IsNext root paths t u = ((u ≡ t) × FindsTree root paths (IsOverPath root (path_at paths t)) None)
    ⊎ IsInnermost root paths (IsOverPath root (path_at paths t)) u

-- the nearest trees over the first paths
pub record AreNearest (root : List ℕ) (paths : List Path) (end : ℕ) (next : List ℕ) : Type 0 where
  pub all : length next ≡ end
  pub nearest : (t : ℕ) → t < end → IsNext root paths t (get_or next t t)

-- how long a name is from the top on, where the root's spelling from the top has this length
abbrev pub depth_of : ℕ → Name → ℕ
depth_of top x = if is_absolute x then length x else (if same_name x (codes ".") then top else top + length x + 1)

-- the rank of a path: a tree is deeper than those over it, and the file of a name is deeper than its tree
abbrev pub rank_of : ℕ → Path → ℕ
rank_of top p = depth_of top p.name + (if p.tree then 0 else 1)

-- the ranks of the first paths
pub record AreRanks (top : Name) (paths : List Path) (end : ℕ) (ranks : List ℕ) : Type 0 where
  pub all : length ranks ≡ end
  pub rank : (t : ℕ) → t < end → get_or ranks t 0 ≡ rank_of (length top) (path_at paths t)

-- t is met on the way up from q just where path t is over path q
pub record AreWaysUp (root : List ℕ) (paths : List Path) (ups : Ups) : Type 0 where
  pub all : number_count ups ≡ length paths
  pub over : (t q : ℕ) → t < length paths → q < length paths → IsUp ups t q ↔ (is_over root (path_at paths t) (path_at paths q) ≡ true)
