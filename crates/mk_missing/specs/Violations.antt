-- What undeclared jobs lack, kind by kind, and whole lists of it.
use Rattle.std.specs.Prelude.{ℕ, ◌≡◌, ◌≢◌, ◌<◌, ◌↔◌, true, false, List, [], Contains, Option, None, get_or, length}
use Rattle.std.specs.List.Sorted.{IsStrictlyIncreasing, IsStrictlySortedBy}
use Rattle.mk_name.specs.Names.{Name, has, same_name}
use Rattle.mk_path.specs.declared.path.Path.{Path}
use Rattle.mk_path.specs.Paths.{path_cmp, path_at}
use Rattle.mk_jobs.specs.Jobs.{Jobs, Before, is_listed, is_live, is_phony, may_write, name_of, writes_of}
use Rattle.mk_decide.specs.Pairs.{PairsRise}
use Rattle.mk_missing.specs.Watching.{RunsWith}
use Rattle.mk_missing.specs.Unlisted.{is_unlisted}
use Rattle.mk_missing.specs.Files.{IsFile, IsInputFile, IsLastIfAny, IsLastWriterOf, WatchesFile, writes_file}
use Rattle.mk_missing.specs.declared.violations.Violations.{Violations}

-- unwatched: p is an input of n, and n does not watch it
pub record IsUnwatched (jobs : Jobs) (n : ℕ) (p : Path) : Type 0 where
  pub input : IsInputFile jobs n p
  pub unwatched : WatchesFile jobs n p → ⊥

-- missing: p is an unwatched input of n, and not unlisted
pub record IsMissing (jobs : Jobs) (listing : List Name) (n : ℕ) (p : Path) : Type 0 where
  pub is : IsUnwatched jobs n p
  pub known : is_unlisted jobs listing p ≡ false

-- or it is unlisted
pub record IsUnlistedInput (jobs : Jobs) (listing : List Name) (n : ℕ) (p : Path) : Type 0 where
  pub is : IsUnwatched jobs n p
  pub unlisted : is_unlisted jobs listing p ≡ true

-- late: p is an input of n, and one of its writers is not before n
pub record IsLate (jobs : Jobs) (n : ℕ) (p : Path) : Type 0 where
  pub input : IsInputFile jobs n p
  pub writer : ℕ
  pub writes : writes_file jobs writer p ≡ true
  pub late : Before jobs writer n → ⊥

-- shared: n writes p, and its last writer is another node, which does not run with n
pub record IsShared (jobs : Jobs) (n : ℕ) (p : Path) : Type 0 where
  pub writes : writes_file jobs n p ≡ true
  pub writer : ℕ
  pub last : IsLastWriterOf jobs writer p
  pub other : n ≢ writer
  pub apart : RunsWith jobs n writer → ⊥

-- present: n is live and not phony, and its file is listed
pub record IsPresent (jobs : Jobs) (n : ℕ) : Type 0 where
  pub live : is_live jobs n ≡ true
  pub plain : is_phony jobs n ≡ false
  pub listed : is_listed jobs n ≡ true

-- present too: a recipe writes the file p, which is listed, and no present node has its name
pub record IsListedOutput (jobs : Jobs) (listing : List Name) (p : Path) : Type 0 where
  pub file : p.tree ≡ false
  pub writer : ℕ
  pub writes : writes_file jobs writer p ≡ true
  pub listed : has same_name listing p.name ≡ true
  pub other : (n : ℕ) → name_of jobs n ≡ p.name → IsPresent jobs n → ⊥

-- tree: p is a tree that a recipe writes
pub record IsWrittenTree (jobs : Jobs) (p : Path) : Type 0 where
  pub tree : p.tree ≡ true
  pub writer : ℕ
  pub writes : writes_file jobs writer p ≡ true

-- the places of the files for which this holds, in order
pub record ArePlacesWhere (files : List Path) (Holds : Path → Type 0) (places : List ℕ) : Type 0 where
  pub rise : IsStrictlyIncreasing places
  pub exact : (k : ℕ) → Contains places k ↔ ((k < length files) × Holds (path_at files k))

-- the pairs of a file's place and a node for which this holds, each once, in order
pub record AreAll (files : List Path) (Holds : ℕ → Path → Type 0) (pairs : List (ℕ × ℕ)) : Type 0 where
  pub rise : PairsRise pairs
  pub exact : (k n : ℕ) → Contains pairs (k, n) ↔ ((k < length files) × Holds n (path_at files k))

-- so many pairs there are for which this holds
pub record AreSoMany (files : List Path) (Holds : ℕ → Path → Type 0) (many : ℕ) : Type 0 where
  pub pairs : List (ℕ × ℕ)
  pub all : AreAll files Holds pairs
  pub count : length pairs ≡ many

-- the writer writes the file of this pair, and is not before its node
pub record IsLateBy (jobs : Jobs) (files : List Path) (pair : ℕ × ℕ) (writer : ℕ) : Type 0 where
  pub writes : writes_file jobs writer (path_at files pair.0) ≡ true
  pub late : Before jobs writer pair.1 → ⊥

-- there is such a writer for each pair
pub record AreLateBy (jobs : Jobs) (files : List Path) (pairs : List (ℕ × ℕ)) (writers : List ℕ) : Type 0 where
  pub count : length writers ≡ length pairs
  pub each : (i : ℕ) → i < length pairs → IsLateBy jobs files (get_or pairs i (0, 0)) (get_or writers i 0)

-- for each file there is its last writer, if it has one
pub record AreLast (jobs : Jobs) (files : List Path) (last : List (Option ℕ)) : Type 0 where
  pub count : length last ≡ length files
  pub each : (k : ℕ) → k < length files → IsLastIfAny jobs (path_at files k) (get_or last k None)

-- all files of the jobs, each once, in order, with their last writers; and of each kind all violations, each once, by file and then
-- node, with a late writer for each that is late; and how many unwatched inputs are unlisted
pub record AreViolations (jobs : Jobs) (listing : List Name) (found : Violations) : Type 0 where
  pub rise : IsStrictlySortedBy path_cmp found.files.items
  pub files : (p : Path) → Contains found.files.items p ↔ IsFile jobs p
  pub last : AreLast jobs found.files.items found.last.items
  pub missing : AreAll found.files.items (IsMissing jobs listing) found.missing.items
  pub unlisted : AreSoMany found.files.items (IsUnlistedInput jobs listing) found.unlisted
  pub late : AreAll found.files.items (IsLate jobs) found.late.items
  pub late_by : AreLateBy jobs found.files.items found.late.items found.late_by.items
  pub shared : AreAll found.files.items (IsShared jobs) found.shared.items
  pub present_rise : IsStrictlyIncreasing found.present.items
  pub present : (n : ℕ) → Contains found.present.items n ↔ IsPresent jobs n
  pub outputs : ArePlacesWhere found.files.items (IsListedOutput jobs listing) found.outputs.items
  pub trees : ArePlacesWhere found.files.items (IsWrittenTree jobs) found.trees.items

-- there is no violation of any kind
pub record HasNone (found : Violations) : Type 0 where
  pub missing : found.missing.items ≡ []
  pub late : found.late.items ≡ []
  pub shared : found.shared.items ≡ []
  pub present : found.present.items ≡ []
  pub outputs : found.outputs.items ≡ []
  pub trees : found.trees.items ≡ []

-- no recipe writes a tree
abbrev pub WriteNoTrees : Jobs → Type 0
WriteNoTrees jobs = (n : ℕ) (p : Path) → Contains (writes_of jobs n) p → p.tree ≡ false

-- no recipe may write what is listed
abbrev pub ListsNoOutputs : Jobs → List Name → Type 0
ListsNoOutputs jobs listing = (n : ℕ) (x : Name) → may_write jobs n x ≡ true → has same_name listing x ≡ false
