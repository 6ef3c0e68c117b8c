-- Names by their numbers, and the prerequisites of entries by the numbers of their names.
use Rattle.std.specs.Prelude.{◌≡◌, ℕ, ◌<◌, ◌≤◌, List, [], map, length, position, take, slice_index_or, IsTrue, Option, nat_eq}
use Rattle.mk_name.specs.Names.{Name, kept, same_name, has}

-- the name with a number
abbrev pub name_at : List Name → ℕ → Name
name_at names n = slice_index_or names n []

-- the number of a name
abbrev pub number_of : List Name → Name → Option ℕ
number_of names x = position (λ y. same_name y x) names

-- these numbers stand for these names
pub record Stand (names : List Name) (numbers : List ℕ) (some : List Name) : Type 0 where
  pub within : (n : ℕ) → IsTrue (has nat_eq numbers n) → n < length names
  pub names_are : map (name_at names) numbers ≡ some

-- the first few of some names were put behind the old ones, those that were new
pub record HasFirst (old some new : List Name) : Type 0 where
  pub count : ℕ
  pub within : count ≤ length some
  pub names_are : new ≡ kept same_name old (take count some)
