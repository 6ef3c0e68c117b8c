-- What an index keeps of the paths that nodes use.
use Rattle.std.specs.Prelude.{ℕ, ◌≡◌, ◌<◌, ◌↔◌, Bool, true, false, List, length, map, Contains}
use Rattle.std.specs.List.{All}
use Rattle.std.specs.List.Sorted.{IsStrictlyIncreasing, IsStrictlySortedBy}
use Rattle.mk_path.specs.declared.path.Path.{Path}
use Rattle.mk_index.specs.Holders.{row_limit}
use Rattle.mk_path.specs.Paths.{is_over, path_cmp, path_at}
use Rattle.mk_index.specs.Table.{row_of}
use Rattle.mk_index.specs.Ups.{Ups, IsUp, number_count}
use Rattle.mk_index.specs.Uses.{Uses, reads_of, writes_of}

-- paths go by numbers: for each node the numbers of what it reads and what it writes, the way up from each number to the trees
-- over it, and for each number the nodes that write it and those that read it
pub record Index : Type 0 where
  pub reads : List (List ℕ)
  pub writes : List (List ℕ)
  pub ups : Ups
  pub writers : List (List ℕ)
  pub readers : List (List ℕ)

-- the numbers of what a node writes, or of what it reads
abbrev pub numbers_of : Index → ℕ → Bool → List ℕ
numbers_of index n true = row_of index.writes n
numbers_of index n false = row_of index.reads n

-- a row of numbers rises, and all are numbers of paths
pub record IsNumberRow (ups : Ups) (row : List ℕ) : Type 0 where
  pub within : All (λ q. q < number_count ups) row
  pub rise : IsStrictlyIncreasing row

-- for each number the nodes that hold it
pub record AreHolders (ups : Ups) (nodes : ℕ) (holders : List (List ℕ)) : Type 0 where
  pub all : length holders ≡ number_count ups
  pub within : (t : ℕ) → All (λ n. n < nodes) (row_of holders t)

-- for each number the nodes that write its path, or those that read it
abbrev pub holders_of : Index → Bool → List (List ℕ)
holders_of index true = index.writers
holders_of index false = index.readers

-- nodes and numbers are those of the same index, and a number has 32 bits
pub record IsWhole (index : Index) : Type 0 where
  pub few : number_count index.ups < row_limit
  pub nodes : length index.writes ≡ length index.reads
  pub reads : (n : ℕ) → IsNumberRow index.ups (row_of index.reads n)
  pub writes : (n : ℕ) → IsNumberRow index.ups (row_of index.writes n)
  pub writers : AreHolders index.ups (length index.reads) index.writers
  pub readers : AreHolders index.ups (length index.reads) index.readers
  pub hold : (written : Bool) (t n : ℕ) → Contains (row_of (holders_of index written) t) n ↔ Contains (numbers_of index n written) t

-- the index of these uses: a number is a path's place among rising paths, which hold all that are used; and t is met on the
-- way up from q just where path t is over path q
pub record IsIndexed (uses : Uses) (index : Index) : Type 0 where
  pub paths : List Path
  pub rise : IsStrictlySortedBy path_cmp paths
  pub numbered : number_count index.ups ≡ length paths
  pub reads : (n : ℕ) → map (path_at paths) (row_of index.reads n) ≡ reads_of uses n
  pub writes : (n : ℕ) → map (path_at paths) (row_of index.writes n) ≡ writes_of uses n
  pub over : (t q : ℕ) → t < length paths → q < length paths → IsUp index.ups t q ↔ (is_over uses.root (path_at paths t) (path_at paths q) ≡ true)
