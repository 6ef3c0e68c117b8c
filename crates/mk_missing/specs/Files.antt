-- The files of recipes as paths, and what it is to watch one. A tree stands for all names that it covers and none of the smaller paths does.
use Rattle.std.specs.Prelude.{ℕ, ◌≡◌, ◌<◌, ◌≤◌, ◌⊎◌, Bool, true, false, List, Contains, Option, Some, None}
use Rattle.std.specs.List.{list_any}
use Rattle.mk_path.specs.declared.path.Path.{Path}
use Rattle.mk_path.specs.Paths.{is_over}
use Rattle.mk_jobs.specs.Jobs.{Jobs, node_count, name_of, reads_of, writes_of, is_live}
use Rattle.mk_missing.specs.Watching.{Carries, IsNamed, RunsAlways, is_never_there}

-- one of these paths is p, or a tree over it
abbrev pub is_under : List ℕ → List Path → Path → Bool
is_under root paths p = list_any (λ q. is_over root q p) paths

-- n reads p, or a tree over it
abbrev pub reads_file : Jobs → ℕ → Path → Bool
reads_file jobs n p = is_under jobs.root (reads_of jobs n) p

-- n writes p, or a tree over it
abbrev pub writes_file : Jobs → ℕ → Path → Bool
writes_file jobs n p = is_under jobs.root (writes_of jobs n) p

-- p is a file of the jobs: a path that a recipe reads or writes
abbrev pub IsFile : Jobs → Path → Type 0
IsFile jobs p = (n : ℕ) × (Contains (reads_of jobs n) p ⊎ Contains (writes_of jobs n) p)

-- p is an input of n: n reads it, and does not write it; if nobody writes it, n reads p itself, since a tree stands for all below it
pub record IsInputFile (jobs : Jobs) (n : ℕ) (p : Path) : Type 0 where
  pub reads : reads_file jobs n p ≡ true
  pub foreign : writes_file jobs n p ≡ false
  pub itself : ((m : ℕ) → writes_file jobs m p ≡ false) → Contains (reads_of jobs n) p

-- w is the last writer of p: it writes p, and nobody with a greater number does
pub record IsLastWriterOf (jobs : Jobs) (w : ℕ) (p : Path) : Type 0 where
  pub writes : writes_file jobs w p ≡ true
  pub last : (m : ℕ) → writes_file jobs m p ≡ true → m ≤ w

-- n watches p: by its name, as n watches a name, unless p is a tree, below which a name may be new; or by its last writer; or n runs always
pub data WatchesFile (jobs : Jobs) (n : ℕ) (p : Path) : Type 0 where
  often : RunsAlways jobs n → WatchesFile jobs n p
  by_name : p.tree ≡ false → IsNamed jobs n p.name → WatchesFile jobs n p
  by_chain : {k : ℕ} → p.tree ≡ false → is_live jobs k ≡ true → IsNamed jobs k p.name → Carries jobs k n → WatchesFile jobs n p
  by_writer : {w : ℕ} → IsLastWriterOf jobs w p → Carries jobs w n → WatchesFile jobs n p
  not_there : {k : ℕ} → p.tree ≡ false → k < node_count jobs → name_of jobs k ≡ p.name → is_never_there jobs k ≡ true → WatchesFile jobs n p

-- the last writer, if there is one
abbrev pub IsLastIfAny : Jobs → Path → Option ℕ → Type 0
IsLastIfAny jobs p (Some w) = IsLastWriterOf jobs w p
IsLastIfAny jobs p None = (m : ℕ) → writes_file jobs m p ≡ true → ⊥
