-- What the search for violations keeps: for private clauses.
use Rattle.std.specs.Prelude.{ℕ, ◌≡◌, ◌<◌, ◌⊎◌, true, false, List, Contains, length, Option, Some, None}
use Rattle.mk_name.specs.Names.{Name}
use Rattle.mk_path.specs.declared.path.Path.{Path}
use Rattle.mk_path.specs.Paths.{path_at}
use Rattle.mk_jobs.specs.Jobs.{Jobs, Before, name_of, node_count}
use Rattle.mk_decide.specs.Pairs.{PairsRise}
use Rattle.mk_missing.specs.Watching.{Carries, RunsWith, is_never_there}
use Rattle.mk_missing.specs.Unlisted.{is_unlisted}
use Rattle.mk_missing.specs.Files.{IsInputFile, IsLastWriterOf, WatchesFile, writes_file}
use Rattle.mk_missing.specs.Hearing.{Hears}

-- of the files before a place: each pair of these is one for which this holds, and for each other one that holds
pub record AreFound (files : List Path) (Holds Fine : ℕ → Path → Type 0) (pairs : List (ℕ × ℕ)) (end : ℕ) : Type 0 where
  pub only : (k n : ℕ) → Contains pairs (k, n) → (k < end) × Holds n (path_at files k)
  pub all : (k n : ℕ) → k < end → Contains pairs (k, n) ⊎ Fine n (path_at files k)

-- n watches p if it is an input
abbrev pub IsWatched : Jobs → ℕ → Path → Type 0
IsWatched jobs n p = IsInputFile jobs n p → WatchesFile jobs n p

-- p is unlisted, or n watches it if it is an input
abbrev pub IsSeen : Jobs → List Name → ℕ → Path → Type 0
IsSeen jobs listing n p = (is_unlisted jobs listing p ≡ true) ⊎ IsWatched jobs n p

-- p is not unlisted, or n watches it if it is an input
abbrev pub IsKnown : Jobs → List Name → ℕ → Path → Type 0
IsKnown jobs listing n p = (is_unlisted jobs listing p ≡ false) ⊎ IsWatched jobs n p

-- the writers of p are before n, if it is an input
abbrev pub IsInTime : Jobs → ℕ → Path → Type 0
IsInTime jobs n p = IsInputFile jobs n p → (m : ℕ) → writes_file jobs m p ≡ true → Before jobs m n

-- the last writer of p runs where n does, if n writes it
abbrev pub IsTogether : Jobs → ℕ → Path → Type 0
IsTogether jobs n p = writes_file jobs n p ≡ true → (w : ℕ) → IsLastWriterOf jobs w p → (n ≡ w) ⊎ RunsWith jobs n w

-- the last writer, if there is one, carries to n
abbrev pub WatchesWriter : Jobs → Option ℕ → ℕ → Type 0
WatchesWriter jobs (Some w) n = Carries jobs w n
WatchesWriter jobs None n = ⊥

-- n watches a file, which is no tree, by its name: the name is that of a node that is never there, or of which n hears
pub record WatchesName (jobs : Jobs) (n : ℕ) (p : Path) : Type 0 where
  pub file : p.tree ≡ false
  pub node : ℕ
  pub inside : node < node_count jobs
  pub is : name_of jobs node ≡ p.name
  pub heard : (is_never_there jobs node ≡ true) ⊎ Hears jobs node n

-- the same of all files, each pair once, in order
pub record AreChecked (files : List Path) (Holds Fine : ℕ → Path → Type 0) (pairs : List (ℕ × ℕ)) : Type 0 where
  pub rise : PairsRise pairs
  pub found : AreFound files Holds Fine pairs (length files)
