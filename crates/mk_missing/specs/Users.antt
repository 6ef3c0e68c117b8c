-- Who uses a file: for private clauses.
use Rattle.std.specs.Prelude.{ℕ, ◌≡◌, ◌↔◌, ◌&&◌, not, Bool, true, List, [], Contains, is_none, map}
use Rattle.mk_name.specs.Names.{Name, has, same_name}
use Rattle.mk_path.specs.declared.path.Path.{Path}
use Rattle.mk_jobs.specs.Jobs.{Jobs, reads_of}
use Rattle.mk_missing.specs.Files.{IsInputFile, IsLastIfAny, writes_file}
use Rattle.mk_missing.specs.declared.users.Users.{Users}

-- a node does not write p, whose writers these are; and if there is none, it reads p itself
abbrev pub IsOnlyReader : Jobs → List ℕ → Path → ℕ → Type 0
IsOnlyReader jobs writers p n = ¬ Contains writers n × (writers ≡ [] → Contains (reads_of jobs n) p)

-- the nodes whose input the file is, its writers, and the last of these
pub record AreUsers (jobs : Jobs) (users : Users) : Type 0 where
  pub inputs : (n : ℕ) → Contains users.inputs.items n ↔ IsInputFile jobs n users.file
  pub writers : (n : ℕ) → Contains users.writers.items n ↔ (writes_file jobs n users.file ≡ true)
  pub last : IsLastIfAny jobs users.file users.last

-- the files alone
abbrev pub files_of : List Users → List Path
files_of users = map (λ (user : Users). user.file) users

-- nobody writes the file, which is no tree, and the listing does not have it
abbrev pub is_nowhere : List Name → Users → Bool
is_nowhere listing user = not user.file.tree && is_none user.last && not (has same_name listing user.file.name)
