-- Races, and the least of them.
use Rattle.std.specs.Prelude.{ℕ, ◌≡◌, ◌<◌, ◌≤◌, ◌⊎◌}
use Rattle.mk_jobs.specs.Jobs.{Jobs, Before, Clash}

-- a race: two nodes that clash, the smaller number first, of which neither is before the other
pub record IsRace (jobs : Jobs) (a b : ℕ) : Type 0 where
  pub rises : a < b
  pub clash : Clash jobs a b
  pub apart : Before jobs a b ⊎ Before jobs b a → ⊥

-- a race that no other precedes, by first and then second number
pub record IsLeastRace (jobs : Jobs) (a b : ℕ) : Type 0 where
  pub race : IsRace jobs a b
  pub least : (c d : ℕ) → IsRace jobs c d → (a < c) ⊎ ((a ≡ c) × (b ≤ d))

-- jobs have a least race
abbrev pub HasLeastRace : Jobs → Type 0
HasLeastRace jobs = (a b : ℕ) × IsLeastRace jobs a b
