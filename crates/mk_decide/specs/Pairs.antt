-- Pairs of nodes that clash.
use Rattle.std.specs.Prelude.{ℕ, ◌<◌, ◌≤◌, ◌↔◌, List, [], length}
use Rattle.std.specs.List.{Contains}
use Rattle.std.specs.List.Sorted.{IsStrictlySortedBy}
use Rattle.mk_name.specs.Reported.{Reported}
use Rattle.mk_name.specs.declared.fault.Kind.TheVariants.{TooManyPairs}
use Rattle.mk_name.specs.declared.fault.Source.TheVariants as sources
use Rattle.mk_jobs.specs.Jobs.{Jobs, Clash}
use Rattle.mk_proof.specs.Shapes.{most_chains, pair_cmp}

-- the most pairs that may clash: as many as a certificate has chains
abbrev pub pair_limit : ℕ
pair_limit = most_chains

-- each pair comes before those after it
abbrev pub PairsRise : List (ℕ × ℕ) → Type 0
PairsRise pairs = IsStrictlySortedBy pair_cmp pairs

-- all pairs of nodes that clash, each once, the smaller number first, in order
pub record ArePairs (jobs : Jobs) (pairs : List (ℕ × ℕ)) : Type 0 where
  pub rise : PairsRise pairs
  pub clash : (a b : ℕ) → Contains pairs (a, b) ↔ ((a < b) × Clash jobs a b)

-- in each pair the numbers rise and the nodes clash
abbrev pub OnlyClashing : Jobs → List (ℕ × ℕ) → Type 0
OnlyClashing jobs pairs = (a b : ℕ) → Contains pairs (a, b) → (a < b) × Clash jobs a b

-- no more pairs clash than may: these are all of them
pub record HasFewPairs (jobs : Jobs) : Type 0 where
  pub pairs : List (ℕ × ℕ)
  pub all : ArePairs jobs pairs
  pub few : length pairs ≤ pair_limit

-- more pairs clash than may
pub record HasManyPairs (jobs : Jobs) : Type 0 where
  pub pairs : List (ℕ × ℕ)
  pub rise : PairsRise pairs
  pub clash : OnlyClashing jobs pairs
  pub many : pair_limit < length pairs

-- the pair of two nodes is there, the smaller number first
pub record Holds (pairs : List (ℕ × ℕ)) (a b : ℕ) : Type 0 where
  pub rising : a < b → Contains pairs (a, b)
  pub falling : b < a → Contains pairs (b, a)

-- the fault of too many pairs
abbrev pub too_many : Reported
too_many = record { kind = TooManyPairs; source = sources.Jobs; place = 0; names = [] }
