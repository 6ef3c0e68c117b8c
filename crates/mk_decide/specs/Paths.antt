-- What edges lead to.
use Rattle.std.specs.Prelude.{ℕ, ◌≡◌, ◌⊎◌}
use Rattle.mk_jobs.specs.Jobs.{Jobs, Before}

-- a node is a, or has a before it
abbrev pub IsFrom : Jobs → ℕ → ℕ → Type 0
IsFrom jobs a x = (x ≡ a) ⊎ Before jobs a x
