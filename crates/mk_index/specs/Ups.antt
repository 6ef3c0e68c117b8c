-- Numbers of which some stand above others.
use Rattle.std.specs.Prelude.{ℕ, ◌≡◌, ◌<◌, ◌⊎◌, List, length, get_or, Contains, Option, Some, None}
use Rattle.std.specs.List.{All}
use Rattle.mk_index.specs.Table.{row_of}

-- for each number the one that stands next above it, or itself where none does; and a rank, which falls upwards
pub record Ups : Type 0 where
  pub next : List ℕ
  pub ranks : List ℕ

-- how many numbers there are
abbrev pub number_count : Ups → ℕ
number_count ups = length ups.next

-- the number next above this one, or itself where none is
abbrev pub above : Ups → ℕ → ℕ
above ups t = get_or ups.next t t

-- the rank of a number
abbrev pub rank_at : Ups → ℕ → ℕ
rank_at ups t = get_or ups.ranks t 0

-- t is q, or stands above it: it is met on the way up from q
pub data IsUp (ups : Ups) (t : ℕ) : ℕ → Type 0 where
  here : IsUp ups t t
  higher : {q : ℕ} → IsUp ups t (above ups q) → IsUp ups t q

-- there is such another number, and t stands above it or is it
abbrev pub IsUpOf : Ups → ℕ → Option ℕ → Type 0
IsUpOf ups t None = ⊥
IsUpOf ups t (Some q) = IsUp ups t q

-- numbers and ranks are those of the same numbers, and the ranks fall upwards
pub record AreRanked (ups : Ups) : Type 0 where
  pub ranked : length ups.ranks ≡ number_count ups
  pub within : All (λ u. u < number_count ups) ups.next
  pub fall : (t : ℕ) → t < number_count ups → (above ups t ≡ t) ⊎ (rank_at ups (above ups t) < rank_at ups t)

-- a number that holders stand at, at t or above: one of these numbers, and one above it
pub record IsHeldOver (ups : Ups) (holders : List (List ℕ)) (mine : List ℕ) (a : ℕ) : Type 0 where
  pub lower : ℕ
  pub there : Contains mine lower
  pub upper : ℕ
  pub over : IsUp ups upper lower
  pub holds : Contains (row_of holders upper) a
