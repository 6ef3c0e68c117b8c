-- Who clashes, by the paths of footprints.
use Rattle.std.specs.Prelude.{ℕ, ◌≢◌, ◌⊎◌, ◌↔◌}
use Rattle.mk_index.specs.Uses.{Reaches, Uses}
use Rattle.mk_jobs.specs.Jobs.{Clash, Jobs}
use Rattle.mk_jobs.specs.Shape.{IsWellFormed}

-- what the nodes of jobs use
abbrev pub uses_of : Jobs → Uses
uses_of jobs = record { root = jobs.root; reads = jobs.reads; writes = jobs.writes }

-- two nodes clash just where one of them reaches the other: it has a path over one of the other's, and one of the two is written
abbrev pub ClashIsReach : Type 0
ClashIsReach = (jobs : Jobs) (a b : ℕ) → IsWellFormed jobs
    → Clash jobs a b ↔ ((a ≢ b) × (Reaches (uses_of jobs) a b ⊎ Reaches (uses_of jobs) b a))
