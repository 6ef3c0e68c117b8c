-- Laws of jobs.
use Rattle.std.specs.Prelude.{ℕ, ◌≡◌, ◌<◌, true}
use Rattle.mk_jobs.specs.Jobs.{Jobs, Before, Clash, IsValid, is_live, node_count}
use Rattle.mk_jobs.specs.Shape.{IsWellFormed}

-- well-formed jobs are valid
abbrev pub ShapeIsValid : Type 0
ShapeIsValid = (jobs : Jobs) → IsWellFormed jobs → IsValid jobs

-- in valid jobs a node that is before another has the smaller number, so no node is before itself
abbrev pub ChainsRise : Type 0
ChainsRise = (jobs : Jobs) (a b : ℕ) → IsValid jobs → Before jobs a b → a < b

-- both are live, and nodes of the plan
pub record AreLive (jobs : Jobs) (a b : ℕ) : Type 0 where
  pub first_live : is_live jobs a ≡ true
  pub second_live : is_live jobs b ≡ true
  pub first_node : a < node_count jobs
  pub second_node : b < node_count jobs

-- who clashes is live
abbrev pub ClashIsLive : Type 0
ClashIsLive = (jobs : Jobs) (a b : ℕ) → Clash jobs a b → AreLive jobs a b

-- a clash has no direction
abbrev pub ClashTurns : Type 0
ClashTurns = (jobs : Jobs) (a b : ℕ) → Clash jobs a b → Clash jobs b a
