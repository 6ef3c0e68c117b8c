-- What the search for the least race keeps.
use Rattle.std.specs.Prelude.{ℕ, ◌≡◌, ◌<◌, ◌≤◌, ◌⊎◌, Option, Some, None}
use Rattle.mk_jobs.specs.Jobs.{Jobs, Before}
use Rattle.mk_decide.specs.Races.{IsRace}

-- what was found is a race
abbrev pub IsFound : Jobs → Option (ℕ × ℕ) → Type 0
IsFound jobs None = Unit {0}
IsFound jobs (Some (a, b)) = IsRace jobs a b

-- a pair was found, and it is not behind this one
abbrev pub IsUpTo : Option (ℕ × ℕ) → ℕ → ℕ → Type 0
IsUpTo None c d = ⊥
IsUpTo (Some (a, b)) c d = (a < c) ⊎ ((a ≡ c) × (b ≤ d))

-- whatever came up to a pair still does
abbrev pub Lowers : Option (ℕ × ℕ) → Option (ℕ × ℕ) → Type 0
Lowers old new = (c d : ℕ) → IsUpTo old c d → IsUpTo new c d

-- of two nodes the smaller is before the greater, or what was found is not behind the two
pub record IsSettled (jobs : Jobs) (found : Option (ℕ × ℕ)) (a b : ℕ) : Type 0 where
  pub rising : a < b → Before jobs a b ⊎ IsUpTo found a b
  pub falling : b < a → Before jobs b a ⊎ IsUpTo found b a
