-- What can be wrong with a node and a file, or with a file by itself: for private clauses.
use Rattle.std.specs.Prelude.{ℕ, ◌≡◌, List}
use Rattle.mk_name.specs.Names.{Name}
use Rattle.mk_path.specs.declared.path.Path.{Path}
use Rattle.mk_jobs.specs.Jobs.{Jobs, name_of}
use Rattle.mk_missing.specs.declared.kind.Kind.{Kind}
use Rattle.mk_missing.specs.declared.kind.Kind.TheVariants.{Unwatched, Late, Shared}
use Rattle.mk_missing.specs.declared.kind.Flaw.{Flaw}
use Rattle.mk_missing.specs.declared.kind.Flaw.TheVariants.{Listed, Tree}
use Rattle.mk_missing.specs.declared.users.Users.{Users}
use Rattle.mk_missing.specs.Finding.{IsInTime, IsTogether, IsWatched}
use Rattle.mk_missing.specs.Violations.{IsLate, IsListedOutput, IsPresent, IsShared, IsUnwatched, IsWrittenTree}

-- something of this kind is wrong
abbrev pub IsWrong : Jobs → Kind → ℕ → Path → Type 0
IsWrong jobs Unwatched = IsUnwatched jobs
IsWrong jobs Late = IsLate jobs
IsWrong jobs Shared = IsShared jobs

-- all of this kind is fine
abbrev pub IsFine : Jobs → Kind → ℕ → Path → Type 0
IsFine jobs Unwatched = IsWatched jobs
IsFine jobs Late = IsInTime jobs
IsFine jobs Shared = IsTogether jobs

-- the users with which something of this kind can be wrong
abbrev pub nodes_of : Kind → Users → List ℕ
nodes_of Unwatched users = users.inputs.items
nodes_of Late users = users.inputs.items
nodes_of Shared users = users.writers.items

-- a file has this flaw
abbrev pub HasFlaw : Jobs → List Name → Flaw → Path → Type 0
HasFlaw jobs listing Listed = IsListedOutput jobs listing
HasFlaw jobs listing Tree = IsWrittenTree jobs

-- a name is that of a present node
abbrev pub IsPresentName : Jobs → Name → Type 0
IsPresentName jobs x = (n : ℕ) × (name_of jobs n ≡ x) × IsPresent jobs n
