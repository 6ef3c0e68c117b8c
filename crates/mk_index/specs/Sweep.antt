-- The stack of open trees, as a sweep over paths in order keeps it. It is written from its top on.
use Rattle.std.specs.Prelude.{ℕ, ◌≡◌, ◌<◌, ◌⊎◌, List, [], ◌∷◌, length, take}
use Rattle.mk_name.specs.Names.{Name}
use Rattle.mk_path.specs.declared.path.Path.{Path}
use Rattle.mk_index.specs.declared.sweep.Open.{Open}
use Rattle.mk_path.specs.Paths.{path_at}
use Rattle.mk_index.specs.Nearest.{FindsTree, IsInner, IsTreeAt}

-- y is a beginning of x, and not x
pub record IsBegin (x y : Name) : Type 0 where
  pub less : length y < length x
  pub is : y ≡ take (length y) x

-- the name of an open tree
abbrev pub name_of : List Path → Open → Name
name_of paths top = (path_at paths top.tree).name

-- each tree whose name is a beginning of x is the top, or its name is a beginning of the top's; without a top there is none
abbrev pub KeepsBegins : List Path → Name → List Open → Type 0
KeepsBegins paths x [] = (v : ℕ) (y : Name) → IsBegin x y → IsTreeAt paths v y → ⊥
KeepsBegins paths x (top ∷ stack) = (v : ℕ) (y : Name) → IsBegin x y → IsTreeAt paths v y → (y ≡ name_of paths top) ⊎ IsBegin (name_of paths top) y

-- each is a tree with the innermost tree that its name spells, and the stack below it keeps the beginnings of its name
abbrev pub AreOpen : List Path → List Open → Type 0
AreOpen paths [] = Unit {0}
AreOpen paths (top ∷ stack) = IsTreeAt paths top.tree (name_of paths top) × ((root : List ℕ) → FindsTree root paths (IsInner (name_of paths top)) top.inner)
    × KeepsBegins paths (name_of paths top) stack × AreOpen paths stack

-- x begins with the name of the top, if there is one
abbrev pub BeginsWithTop : List Path → Name → List Open → Type 0
BeginsWithTop paths x [] = Unit {0}
BeginsWithTop paths x (top ∷ stack) = name_of paths top ≡ take (length (name_of paths top)) x

-- the stack when path t is next
pub record IsStackAt (paths : List Path) (t : ℕ) (stack : List Open) : Type 0 where
  pub are : AreOpen paths stack
  pub begins : t < length paths → KeepsBegins paths (path_at paths t).name stack
