-- Tables by which the source of a name is found: sets of places in the list of suffixes, by names ("Inference Rules").
use Rattle.std.specs.Prelude.{◌≡◌, ℕ, ◌<◌, ◌⊎◌, ◌++◌, ◌-◌, ◌&&◌, ◌||◌, nat_eq, Bool, false, List, [], Option, Some, None, IsTrue, length, position, take}
use Rattle.std.specs.BTreeMap.{get}
use Rattle.std.specs.Cmp.Lexicographic.{slice_cmp}
use Rattle.std.specs.declared.collections.BTreeMap.{BTreeMap}
use Rattle.std.specs.declared.collections.BTreeSet.{BTreeSet}
use Rattle.std.specs.Global.{Global}
use Rattle.std.specs.Option.{is_some, option_map_or}
use Rattle.std.specs.Ordering.{nat_cmp}
use Rattle.mk_name.specs.Names.{Name, same_name, has}
use Rattle.mk_graph.specs.Numbers.{in_set}
use Rattle.mk_graph.specs.Suffix.{from_last_period}

-- sets of places by names
abbrev pub Table : Type 0
Table = BTreeMap Name (BTreeSet ℕ Global) Global

-- the place stands beside the name
abbrev pub stands_beside : Table → Name → ℕ → Bool
stands_beside table name place = option_map_or (λ places. in_set places place) (get (slice_cmp nat_cmp) table name) false

-- the table has the name
abbrev pub is_key : Table → Name → Bool
is_key table name = is_some (get (slice_cmp nat_cmp) table name)

-- no place stands beside any name
abbrev pub IsBlank : Table → Type 0
IsBlank table = (name : Name) (place : ℕ) → stands_beside table name place ≡ false

-- the place of a suffix in the list
abbrev pub place_of : List Name → Name → Option ℕ
place_of suffixes s = position (same_name s) suffixes

-- a table gets the place of a suffix beside a name, if the list has the suffix
abbrev pub NotesPlace : List Name → Name → Name → Table → Table → Type 0
NotesPlace suffixes name s before after =
    (n : Name) (p : ℕ) → stands_beside after n p ≡ (stands_beside before n p || (same_name name n && option_map_or (λ place. nat_eq place p) (place_of suffixes s) false))

-- what stands before the last period; all where there is none
abbrev pub before_last_period : Name → Name
before_last_period name = take (length name - length (from_last_period name)) name

-- beside a name stand the places of the suffixes with which it is joined to one of some names. All such places stand
-- beside the names of a kind
pub record ArePlaces (joined : Name → Name → Name) (IsKind : Name → Type 0) (suffixes names : List Name) (table : Table) : Type 0 where
  pub sound : (name : Name) (place : ℕ) → IsTrue (stands_beside table name place) → (s : Name) × (place_of suffixes s ≡ Some place) × IsTrue (has same_name names (joined name s))
  pub complete : (name s : Name) (place : ℕ) → IsKind name → place_of suffixes s ≡ Some place → IsTrue (has same_name names (joined name s)) → IsTrue (stands_beside table name place)

-- no suffix, or one of the list
abbrev pub IsOld : List Name → Name → Type 0
IsOld suffixes old = (old ≡ []) ⊎ IsTrue (has same_name suffixes old)

-- beside each old suffix stand the places of those from which one of these rules leads to it
abbrev pub AreRulePlaces : List Name → List Name → Table → Type 0
AreRulePlaces suffixes rules table = ArePlaces (λ old new. new ++ old) (IsOld suffixes) suffixes rules table

-- beside each name of the table stand the places of the suffixes with which it is one of these names
abbrev pub AreNamePlaces : List Name → List Name → Table → Type 0
AreNamePlaces suffixes names table = ArePlaces (λ stem s. stem ++ s) (λ stem. IsTrue (is_key table stem)) suffixes names table

-- the least place of a suffix that passes a test
abbrev pub IsLeastSuffix : List Name → (Name → Bool) → Option ℕ → Type 0
IsLeastSuffix suffixes test None = (s : Name) (p : ℕ) → place_of suffixes s ≡ Some p → test s ≡ false
IsLeastSuffix suffixes test (Some n) =
    (s : Name) × (place_of suffixes s ≡ Some n) × IsTrue (test s) × ((r : Name) (p : ℕ) → place_of suffixes r ≡ Some p → p < n → test r ≡ false)
