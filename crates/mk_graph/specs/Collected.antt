-- What a search for all that the goals need has found.
use Rattle.std.specs.Prelude.{◌≡◌, ◌⊎◌, ◌++◌, ◌<◌, ◌≤◌, ℕ, List, [], map, length, get_or, slice_index_or, IsTrue, IsSome, Option, Some, None, Vec, nat_eq}
use Rattle.std.specs.Global.{Global}
use Rattle.std.specs.Option.{option_to_list}
use Rattle.mk_name.specs.Names.{Name, same_name, has, IsDistinct}
use Rattle.mk_rules.specs.Book.{Book, Entry, places_of}
use Rattle.mk_graph.specs.Graph.{IsNode}
use Rattle.mk_graph.specs.Makers.{inferred_source, needs}
use Rattle.mk_graph.specs.Rows.{row}
use Rattle.mk_jobs.specs.Numbered.{name_at, Stand}

-- the prerequisites that the rule at a place gives
abbrev pub given_at : List Entry → ℕ → List Name
given_at rules place = slice_index_or (map (λ e. e.prerequisites) rules) place []

-- a rule that was read has the numbers of its prerequisites
abbrev pub HaveNumbers : List Name → List Name → Option (Vec ℕ Global) → Type 0
HaveNumbers names given None = Unit {0}
HaveNumbers names given (Some numbers) = Stand names numbers.items given

abbrev pub AllStand : List Entry → List Name → List (Option (Vec ℕ Global)) → Type 0
AllStand rules names entries = (place : ℕ) → place < length rules → HaveNumbers names (given_at rules place) (get_or entries place None)

-- the rules at some places were read
pub record Reads (rules : List Entry) (places : List ℕ) (old_names : List Name) (old_entries : List (Option (Vec ℕ Global))) (names : List Name) (entries : List (Option (Vec ℕ Global))) : Type 0 where
  pub more : List Name
  pub grows : names ≡ old_names ++ more
  pub distinct : IsDistinct same_name old_names → IsDistinct same_name names
  pub from : (x : Name) → IsTrue (has same_name names x) → IsTrue (has same_name old_names x) ⊎ ((place : ℕ) × IsTrue (has nat_eq places place) × (place < length rules) × IsTrue (has same_name (given_at rules place) x))
  pub stand : AllStand rules old_names old_entries → AllStand rules names entries
  pub done : (place : ℕ) → IsTrue (has nat_eq places place) → IsSome (get_or entries place None)
  pub stays : (place : ℕ) → IsSome (get_or old_entries place None) → IsSome (get_or entries place None)
  pub long : length entries ≡ length old_entries

-- the number of a source that may be there stands for it
abbrev pub SourceStands : List Name → Option ℕ → Option Name → Type 0
SourceStands names number source = Stand names (option_to_list number) (option_to_list source)

-- the first names have the numbers of their inferred sources
abbrev pub SourcesStand : Book → List Name → List Name → List (Option ℕ) → ℕ → Type 0
SourcesStand book listing names sources count = (i : ℕ) → i < count → SourceStands names (get_or sources i None) (inferred_source book listing (name_at names i))

-- these names are nodes, with the rules that were read so far, and those of the first `read` names all were, and their
-- sources
pub record Collected (book : Book) (listing goals names : List Name) (entries : List (Option (Vec ℕ Global))) (sources : List (Option ℕ)) (starts : List ℕ) (read : ℕ) : Type 0 where
  pub distinct : IsDistinct same_name names
  pub nodes : (x : Name) → IsTrue (has same_name names x) → IsNode same_name (needs book listing) goals x
  pub starts_stand : Stand names starts goals
  pub long : length entries ≡ length book.rules
  pub stand : AllStand book.rules names entries
  pub done : (i place : ℕ) → i < read → IsTrue (has nat_eq (places_of book.rules (name_at names i)) place) → IsSome (get_or entries place None)
  pub counted : length sources ≡ read
  pub sources_stand : SourcesStand book listing names sources read
  pub within : read ≤ length names

-- all that the goals need, by numbers
pub record IsGraph (book : Book) (listing goals names : List Name) (rows : List (Vec ℕ Global)) (starts : List ℕ) : Type 0 where
  pub distinct : IsDistinct same_name names
  pub nodes : (x : Name) → IsTrue (has same_name names x) → IsNode same_name (needs book listing) goals x
  pub starts_stand : Stand names starts goals
  pub long : length rows ≡ length names
  pub rows_stand : (i : ℕ) → i < length names → Stand names (row rows i) (needs book listing (name_at names i))
