-- The index of rows of paths.
use Rattle.std.proofs.Common.{ℕ, suc, zero, ◌≡◌, ◌<◌, ◌+◌, ◌↔◌, false, Bool, true, List, Vec, [], ◌∷◌, length, get_or, map, All, Contains, Less, refl, sym, ap, subst, ◌∙◌, inl, inr, arith}
use Rattle.std.specs.Prelude.{slice_get, unwrap_or}
use Rattle.std.specs.Global.{Global}
use Rattle.std.specs.List.Sorted.{IsStrictlySortedBy}
use Rattle.std.specs.Ordering.{is_eq}
use Rattle.std.proofs.lemmas.Bool.{both_ways, cases_lt, cases_order}
use Rattle.std.proofs.lemmas.List.{get_or-map, length-map, get_or_past}
use Rattle.std.proofs.lemmas.List.Elements.{All-contains, All-nil, Contains-get_or}
use Rattle.std.proofs.lemmas.Map.Keys.{Less-from_sorted}
use Rattle.std.proofs.lemmas.Option.{unwrap_or-slice_get}
use Rattle.mk_path.specs.declared.path.Path.{Path}
use Rattle.mk_index.specs.Index.{Index, AreHolders, IsIndexed, IsNumberRow, IsWhole, holders_of, numbers_of}
use Rattle.mk_index.specs.Nearest.{ArePaths, AreWaysUp}
use Rattle.mk_path.specs.Paths.{path_cmp, same_path, path_at}
use Rattle.mk_index.specs.Places.{AreNumbers, ArePlaces}
use Rattle.mk_index.specs.Table.{row_of}
use Rattle.mk_index.specs.Ups.{Ups, number_count}
use Rattle.mk_index.specs.Uses.{AreRising, uses_of}
use Rattle.mk_path.proofs.Numbering.{same_itself}
use Rattle.mk_path.proofs.PathOrder.{path_cmp_total, path_ties}

-- the paths of a row
abbrev pub items : Vec Path Global → List Path
items row = row.items

pub row_places : (paths : List Path) (table : List (List ℕ)) (rows : List (Vec Path Global)) (n : ℕ) → AreNumbers paths table rows
    → ArePlaces paths (row_of table n) (get_or (map items rows) n [])
row_places paths [] [] n are = record { within = All-nil (λ t. t < length paths); are = refl }
row_places paths [] (row ∷ rows) n are = absurd are
row_places paths (numbers ∷ table) [] n are = absurd are
row_places paths (numbers ∷ table) (row ∷ rows) zero are = are.0
row_places paths (numbers ∷ table) (row ∷ rows) (suc n) are = row_places paths table rows n are.1

pub all_numbers : (paths : List Path) (table : List (List ℕ)) (rows : List (Vec Path Global)) → AreNumbers paths table rows → length table ≡ length rows
all_numbers paths [] [] are = refl
all_numbers paths [] (row ∷ rows) are = absurd are
all_numbers paths (numbers ∷ table) [] are = absurd are
all_numbers paths (numbers ∷ table) (row ∷ rows) are = ap suc (all_numbers paths table rows are.1)

-- the numbers of a row are the places of its paths
pub row_are : (paths : List Path) (table : List (List ℕ)) (rows : List (Vec Path Global)) (n : ℕ) → AreNumbers paths table rows
    → map (path_at paths) (row_of table n) ≡ unwrap_or (slice_get (map items rows) n) []
row_are paths table rows n are = (row_places paths table rows n are).are ∙ sym (unwrap_or-slice_get (map items rows) n [])

-- numbers rise where their paths do
not_less : (p : Path) → path_cmp p p ≡ Less → ⊥
not_less p less = both_ways (same_path p p) (path_ties p p ∙ ap is_eq less) (same_itself p)

number_less : (paths : List Path) (t u : ℕ) → ArePaths paths → t < length paths → u < length paths → path_cmp (path_at paths t) (path_at paths u) ≡ Less → t < u
number_less paths t u are t_below u_below less = elim (cases_order t u) [
  | inl same ↦ absurd (not_less (path_at paths u) (ap (λ k. path_cmp (path_at paths k) (path_at paths u)) (sym same) ∙ less))
  | inr (inl before) ↦ before
  | inr (inr after) ↦
      let back : path_cmp (path_at paths u) (path_at paths t) ≡ Less = Less-from_sorted path_cmp paths u t (record { name = []; tree = false }) are.rise after t_below in
      absurd (not_less (path_at paths t) (path_cmp_total.trans (path_at paths t) (path_at paths u) (path_at paths t) less back))
]

pub number_row : (paths : List Path) (ups : Ups) (row : List ℕ) (used : List Path) → ArePaths paths → number_count ups ≡ length paths → ArePlaces paths row used
    → IsStrictlySortedBy path_cmp used → IsNumberRow ups row
number_row paths ups row used are all places rise = record {
  within = λ k d below. omega (arith, places.within k d below, all);
  rise = λ k below.
      let nothing : Path = record { name = []; tree = false } in
      let before : k < length row = omega arith in
      let long : k + 1 < length used = omega (arith, below, ap length places.are, length-map row (path_at paths)) in
      let less : path_cmp (get_or used k nothing) (get_or used (k + 1) nothing) ≡ Less = Less-from_sorted path_cmp used k (k + 1) nothing rise (omega arith) long in
      let first : get_or used k nothing ≡ path_at paths (get_or row k 0) = ap (λ (ps : List Path). get_or ps k nothing) (sym places.are) ∙ get_or-map (path_at paths) row k 0 nothing before in
      let second : get_or used (k + 1) nothing ≡ path_at paths (get_or row (k + 1) 0) =
      ap (λ (ps : List Path). get_or ps (k + 1) nothing) (sym places.are) ∙ get_or-map (path_at paths) row (k + 1) 0 nothing below in
      number_less paths (get_or row k 0) (get_or row (k + 1) 0) are (places.within k 0 before) (places.within (k + 1) 0 below)
      (subst (λ (p : Path). path_cmp p (path_at paths (get_or row (k + 1) 0)) ≡ Less) first (subst (λ (p : Path). path_cmp (get_or used k nothing) p ≡ Less) second less));
}

-- who holds a number, for all numbers
pub held_all : (rows holders : List (List ℕ)) (count : ℕ) → length holders ≡ count → ((t n : ℕ) → t < count → Contains (row_of holders t) n ↔ Contains (row_of rows n) t)
    → ((n : ℕ) → All (λ q. q < count) (row_of rows n)) → (t n : ℕ) → Contains (row_of holders t) n ↔ Contains (row_of rows n) t
held_all rows holders count all hold within t n = elim (cases_lt t count) [
  | inl below ↦ hold t n below
  | inr past ↦ (
    λ there. absurd (omega (arith, there.1, ap length (get_or_past holders t [] (omega (arith, past, all))))),
    λ there. let below = All-contains (λ q. q < count) (row_of rows n) t (within n) there in absurd (omega (arith, past, below)),
  )
]

pub are_holders : (ups : Ups) (rows holders : List (List ℕ)) (nodes : ℕ) → length holders ≡ number_count ups → length rows ≡ nodes
    → ((t n : ℕ) → Contains (row_of holders t) n ↔ Contains (row_of rows n) t) → AreHolders ups nodes holders
are_holders ups rows holders nodes all nodes_are hold = record {
  all = all;
  within = λ t k d below.
      let n = get_or (row_of holders t) k d in
      let there = (hold t n).0 (Contains-get_or (row_of holders t) k d below) in
      elim (cases_lt n (length rows)) [
        | inl inside ↦ omega (arith, inside, nodes_are)
        | inr past ↦ absurd (omega (arith, there.1, ap length (get_or_past rows n [] past)))
      ];
}

-- what is built is the index of the uses
module _ (root : List ℕ) (paths : List Path) (reads writes : List (Vec Path Global)) (index : Index) (are : ArePaths paths) (ways : AreWaysUp root paths index.ups)
    (read_numbers : AreNumbers paths index.reads reads) (written_numbers : AreNumbers paths index.writes writes)
    (writer_count : length index.writers ≡ length paths)
    (writers : (t n : ℕ) → t < length paths → Contains (row_of index.writers t) n ↔ Contains (row_of index.writes n) t)
    (reader_count : length index.readers ≡ length paths)
    (readers : (t n : ℕ) → t < length paths → Contains (row_of index.readers t) n ↔ Contains (row_of index.reads n) t) where
  all_writers : (t n : ℕ) → Contains (row_of index.writers t) n ↔ Contains (row_of index.writes n) t
  all_writers = held_all index.writes index.writers (length paths) writer_count writers (λ n. (row_places paths index.writes writes n written_numbers).within)

  all_readers : (t n : ℕ) → Contains (row_of index.readers t) n ↔ Contains (row_of index.reads n) t
  all_readers = held_all index.reads index.readers (length paths) reader_count readers (λ n. (row_places paths index.reads reads n read_numbers).within)

  pub is_indexed : IsIndexed (uses_of root reads writes) index
  is_indexed = record {
    paths = paths;
    rise = are.rise;
    numbered = ways.all;
    reads = λ n. row_are paths index.reads reads n read_numbers;
    writes = λ n. row_are paths index.writes writes n written_numbers;
    over = ways.over;
  }

  all_held : (written : Bool) (t n : ℕ) → Contains (row_of (holders_of index written) t) n ↔ Contains (numbers_of index n written) t
  all_held true = all_writers
  all_held false = all_readers

  pub is_whole : AreRising (uses_of root reads writes) → length writes ≡ length reads → IsWhole index
  is_whole rise same =
      let nodes : length index.writes ≡ length index.reads = all_numbers paths index.writes writes written_numbers ∙ same ∙ sym (all_numbers paths index.reads reads read_numbers) in
      record {
        few = omega (arith, ways.all, are.few);
        nodes = nodes;
        reads = λ n. number_row paths index.ups (row_of index.reads n) _ are ways.all (row_places paths index.reads reads n read_numbers)
            (subst (λ (ps : List Path). IsStrictlySortedBy path_cmp ps) (unwrap_or-slice_get (map items reads) n []) (rise.reads n));
        writes = λ n. number_row paths index.ups (row_of index.writes n) _ are ways.all (row_places paths index.writes writes n written_numbers)
            (subst (λ (ps : List Path). IsStrictlySortedBy path_cmp ps) (unwrap_or-slice_get (map items writes) n []) (rise.writes n));
        writers = are_holders index.ups index.writes index.writers (length index.reads) (writer_count ∙ sym ways.all) nodes all_writers;
        readers = are_holders index.ups index.reads index.readers (length index.reads) (reader_count ∙ sym ways.all) refl all_readers;
        hold = all_held;
      }
