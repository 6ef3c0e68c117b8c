-- What nodes read and write, by paths: a row of paths for each node.
use Rattle.std.specs.Prelude.{ℕ, ◌≡◌, ◌<◌, ◌⊎◌, ◌++◌, Bool, true, false, List, Vec, [], length, map, get_or, slice_get, unwrap_or, Contains}
use Rattle.std.specs.Global.{Global}
use Rattle.std.specs.List.{All, list_any}
use Rattle.std.specs.List.Sorted.{IsStrictlySortedBy}
use Rattle.std.specs.declared.cmp.Ordering.TheVariants.{Less}
use Rattle.mk_index.specs.declared.index.Place.{Place}
use Rattle.mk_path.specs.declared.path.Path.{Path}
use Rattle.mk_path.specs.Paths.{is_over, path_cmp}

-- the root that names stand below, and for each node the paths that it reads and those that it writes
pub record Uses : Type 0 where
  pub root : List ℕ
  pub reads : List (List Path)
  pub writes : List (List Path)

-- the paths that a node reads
abbrev pub reads_of : Uses → ℕ → List Path
reads_of uses n = unwrap_or (slice_get uses.reads n) []

-- the paths that a node writes
abbrev pub writes_of : Uses → ℕ → List Path
writes_of uses n = unwrap_or (slice_get uses.writes n) []

-- the uses of rows of paths
abbrev pub uses_of : List ℕ → List (Vec Path Global) → List (Vec Path Global) → Uses
uses_of root reads writes = record {
  root = root;
  reads = map (λ (row : Vec Path Global). row.items) reads;
  writes = map (λ (row : Vec Path Global). row.items) writes;
}

-- the paths of each row rise
pub record AreRising (uses : Uses) : Type 0 where
  pub reads : (n : ℕ) → IsStrictlySortedBy path_cmp (reads_of uses n)
  pub writes : (n : ℕ) → IsStrictlySortedBy path_cmp (writes_of uses n)

-- the paths that a node touches
abbrev pub touched_by : Uses → ℕ → List Path
touched_by uses n = reads_of uses n ++ writes_of uses n

-- node a reaches a path of b: a path of a is over it, and one of the two is written
pub record ReachesPath (uses : Uses) (a b : ℕ) (lower : Path) : Type 0 where
  pub upper : Path
  pub over : is_over uses.root upper lower ≡ true
  pub touches : (Contains (writes_of uses a) upper × Contains (touched_by uses b) lower)
      ⊎ (Contains (reads_of uses a) upper × Contains (writes_of uses b) lower)

-- node a reaches b: it reaches one of b's paths
abbrev pub Reaches : Uses → ℕ → ℕ → Type 0
Reaches uses a b = (lower : Path) × ReachesPath uses a b lower

-- the overlap of two paths is the one that the other is over: o is the overlap of a path of a and one of b, of which one is
-- written
abbrev pub IsOverlap : Uses → ℕ → ℕ → Path → Type 0
IsOverlap uses a b o = ReachesPath uses a b o ⊎ ReachesPath uses b a o

-- the least of these overlaps: each other one comes after it
pub record IsLeastOverlap (uses : Uses) (a b : ℕ) (o : Path) : Type 0 where
  pub overlap : IsOverlap uses a b o
  pub least : (p : Path) → IsOverlap uses a b p → (p ≡ o) ⊎ (path_cmp o p ≡ Less)

-- the paths that a node writes, or those that it reads
abbrev pub paths_of : Uses → ℕ → Bool → List Path
paths_of uses n true = writes_of uses n
paths_of uses n false = reads_of uses n

-- the path at a place of what a node writes, or reads
abbrev pub path_of : Uses → Place → Path
path_of uses place = get_or (paths_of uses place.node place.written) place.place (record { name = []; tree = false })

-- the place is one of a node's paths
abbrev pub IsPlaceOf : Uses → Place → Type 0
IsPlaceOf uses place = place.place < length (paths_of uses place.node place.written)

-- places of all paths that nodes read or write, each path once, in order
pub record AreAllPlaces (uses : Uses) (places : List Place) : Type 0 where
  pub within : All (IsPlaceOf uses) places
  pub rise : IsStrictlySortedBy path_cmp (map (path_of uses) places)
  pub all : (n : ℕ) (written : Bool) (p : Path) → Contains (paths_of uses n written) p → Contains (map (path_of uses) places) p

-- node n writes p or a tree over it, or reads one
abbrev pub has_over : Uses → ℕ → Bool → Path → Bool
has_over uses n written p = list_any (λ q. is_over uses.root q p) (paths_of uses n written)
