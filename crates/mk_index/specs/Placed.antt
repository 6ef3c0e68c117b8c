-- Places of paths by their numbers.
use Rattle.std.specs.Prelude.{ℕ, ◌<◌, ◌≤◌, Bool, List, length, map, get_or, Contains}
use Rattle.std.specs.List.{All}
use Rattle.std.specs.List.Sorted.{IsStrictlyIncreasing}
use Rattle.mk_index.specs.declared.index.Place.{Place}
use Rattle.mk_index.specs.Index.{Index, numbers_of}

-- the number at a place
abbrev pub number_at : Index → Place → ℕ
number_at index place = get_or (numbers_of index place.node place.written) place.place 0

-- the place is one of a node's numbers
pub record IsPlaced (index : Index) (place : Place) : Type 0 where
  pub node : place.node < length index.reads
  pub within : place.place < length (numbers_of index place.node place.written)

-- places of all numbers below an end that nodes have, each number once, in order
pub record ArePlaced (index : Index) (places : List Place) (end : ℕ) : Type 0 where
  pub few : length places ≤ end
  pub placed : All (IsPlaced index) places
  pub below : All (λ place. number_at index place < end) places
  pub rise : IsStrictlyIncreasing (map (number_at index) places)
  pub all : (t n : ℕ) (written : Bool) → t < end → Contains (numbers_of index n written) t → Contains (map (number_at index) places) t
