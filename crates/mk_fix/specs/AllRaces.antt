-- All races of jobs.
use Rattle.std.specs.Prelude.{ℕ, ◌≡◌, ◌↔◌, List, length}
use Rattle.std.specs.List.{Contains}
use Rattle.mk_jobs.specs.Jobs.{Jobs}
use Rattle.mk_decide.specs.Pairs.{ArePairs, PairsRise}
use Rattle.mk_decide.specs.Races.{IsRace}

-- the list has every race, once, by first and then second number, and nothing else
pub record AreRaces (jobs : Jobs) (races : List (ℕ × ℕ)) : Type 0 where
  pub rise : PairsRise races
  pub races_are : (a b : ℕ) → Contains races (a, b) ↔ IsRace jobs a b

-- so many pairs of nodes clash
abbrev pub HasPairs : Jobs → ℕ → Type 0
HasPairs jobs count = (pairs : List (ℕ × ℕ)) × ArePairs jobs pairs × (count ≡ length pairs)
