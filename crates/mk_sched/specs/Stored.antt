-- Stores of the code: the files in the byte order of their names.
use Rattle.std.specs.Prelude.{ℕ, ◌≡◌, ◌==◌, List, if◌then◌else◌}
use Rattle.std.specs.BTreeMap.{insert_entry}
use Rattle.std.specs.Cmp.Lexicographic.{slice_cmp}
use Rattle.std.specs.List.{sum_by}
use Rattle.std.specs.List.Sorted.{IsStrictlySortedBy}
use Rattle.std.specs.Map.{lookup, keys_of, remove_entry, values_of}
use Rattle.std.specs.Ordering.{nat_cmp}
use Rattle.mk_name.specs.Names.{Name, same_name}
use Rattle.mk_sched.specs.Stores.{File, Store}
use Rattle.mk_sched.specs.Timed.{count_of}

-- files, each beside its name
abbrev pub StoredFiles : Type 0
StoredFiles = List (Name × File)

-- what stands at a name
abbrev pub store_of : StoredFiles → Store
store_of files x = lookup (same_name x) files

-- the files with this one at a name, each in its place in the byte order of names
abbrev pub with_file : StoredFiles → Name → File → StoredFiles
with_file files x file = insert_entry (slice_cmp nat_cmp) files x file

-- the files without the one at a name; the same files where none stands there
abbrev pub without_file : StoredFiles → Name → StoredFiles
without_file files x = remove_entry (same_name x) files

-- the names rise, byte by byte, so that each stands once
abbrev pub IsInOrder : StoredFiles → Type 0
IsInOrder files = IsStrictlySortedBy (slice_cmp nat_cmp) (keys_of files)

-- one where the numbers are the same, and zero elsewhere
abbrev pub one_at : ℕ → ℕ → ℕ
one_at time t = if time == t then 1 else 0

-- how many files have a time
abbrev pub how_many : StoredFiles → ℕ → ℕ
how_many files t = sum_by (λ file. one_at file.time t) (values_of files)

-- what a store keeps: its names rise, and each time is counted as often as a file has it
pub record IsStored (files : StoredFiles) (counts : List (ℕ × ℕ)) : Type 0 where
  pub in_order : IsInOrder files
  pub counted : (t : ℕ) → count_of counts t ≡ how_many files t
