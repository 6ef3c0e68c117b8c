-- What has to be in order: for private clauses and laws.
use Rattle.std.specs.Prelude.{ℕ, ◌<◌, ◌⊎◌, ◌↔◌, List, Contains}
use Rattle.mk_jobs.specs.Jobs.{Jobs, Clash, IsPrerequisite}
use Rattle.mk_index.specs.Bits.{HasBit}
use Rattle.mk_decide.specs.Bits.{row_at}
use Rattle.mk_decide.specs.Pairs.{PairsRise}

-- a step leads along an edge, or between two nodes that clash, from the smaller to the greater
abbrev pub IsStep : Jobs → ℕ → ℕ → Type 0
IsStep jobs a b = IsPrerequisite jobs a b ⊎ ((a < b) × Clash jobs a b)

-- a must be before b: steps in a row, one at least, lead from a to b
pub data Must (jobs : Jobs) (a : ℕ) : ℕ → Type 0 where
  step : {b : ℕ} → IsStep jobs a b → Must jobs a b
  more : {b c : ℕ} → Must jobs a b → IsStep jobs b c → Must jobs a c

-- a way around leads from a to b over a third node: a must be before it, and from it goes a step to b
pub record IsAround (jobs : Jobs) (a b : ℕ) : Type 0 where
  pub node : ℕ
  pub behind : Must jobs a node
  pub before : IsStep jobs node b

-- a direct race: a clash with neither an edge nor a way around
pub record IsDirect (jobs : Jobs) (a b : ℕ) : Type 0 where
  pub rises : a < b
  pub clash : Clash jobs a b
  pub no_edge : IsPrerequisite jobs a b → ⊥
  pub no_way : IsAround jobs a b → ⊥

-- a clash is among these edges, or has an edge of its own, or a way around
abbrev pub IsCovered : Jobs → List (ℕ × ℕ) → ℕ → ℕ → Type 0
IsCovered jobs edges a b = Contains edges (a, b) ⊎ (IsPrerequisite jobs a b ⊎ IsAround jobs a b)

-- the direct races, in order
pub record AreDirect (jobs : Jobs) (edges : List (ℕ × ℕ)) : Type 0 where
  pub rise : PairsRise edges
  pub only : (a b : ℕ) → Contains edges (a, b) → IsDirect jobs a b
  pub all : (a b : ℕ) → a < b → Clash jobs a b → IsCovered jobs edges a b

-- the direct races that end below a number
pub record AreDirectBelow (jobs : Jobs) (edges : List (ℕ × ℕ)) (end : ℕ) : Type 0 where
  pub only : (a b : ℕ) → Contains edges (a, b) → IsDirect jobs a b
  pub all : (a b : ℕ) → b < end → a < b → Clash jobs a b → IsCovered jobs edges a b

-- the smaller numbers of nodes that clash with b
abbrev pub AreFirsts : Jobs → List ℕ → ℕ → Type 0
AreFirsts jobs firsts b = (a : ℕ) → Contains firsts a ↔ ((a < b) × Clash jobs a b)

-- a row has the bits of all that must be before b
abbrev pub IsMustRow : Jobs → List ℕ → ℕ → Type 0
IsMustRow jobs row b = (n : ℕ) → HasBit row n ↔ Must jobs n b

-- of the nodes below a number each has such a row
abbrev pub AreMustRows : Jobs → ℕ → List ℕ → ℕ → Type 0
AreMustRows jobs width words end = (x : ℕ) → x < end → IsMustRow jobs (row_at width words x) x

-- a bit of the row of one of these nodes
pub record IsBehind (width : ℕ) (words nodes : List ℕ) (n : ℕ) : Type 0 where
  pub node : ℕ
  pub there : Contains nodes node
  pub bit : HasBit (row_at width words node) n
