-- For private clauses: the smaller of two numbers and the greater one at the ends of a chain.
use Rattle.std.specs.Prelude.{ℕ, ◌<◌, ◌≤◌, List}
use Rattle.mk_cert.specs.Certificates.{IsAtEnds}

-- a chain leads from the smaller to the greater one
pub record IsPaired (chains : List (List ℕ)) (a b : ℕ) : Type 0 where
  pub up : a < b → IsAtEnds chains a b
  pub down : b ≤ a → IsAtEnds chains b a
