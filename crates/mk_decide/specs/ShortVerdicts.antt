-- What is decided about jobs, with a short certificate.
use Rattle.std.specs.Prelude.{ℕ, ◌<◌, List, length}
use Rattle.mk_jobs.specs.Jobs.{Jobs, IsRaceFree}
use Rattle.mk_decide.specs.declared.decision.Verdict.{Verdict}
use Rattle.mk_decide.specs.declared.decision.Verdict.TheVariants.{Safe, Race}
use Rattle.mk_decide.specs.LeastTraces.{IsOfLeastRace}
use Rattle.mk_decide.specs.Neighbours.{AreNeighbours}
use Rattle.mk_decide.specs.Pairs.{PairsRise, pair_limit}
use Rattle.mk_decide.specs.Short.{IsShortCertificate}
use Rattle.mk_decide.specs.Verdicts.{AreChainsOf}

-- safe: the jobs are race-free, and the chains are a short certificate of just the neighbours, in order
pub record AreSafeByShort (jobs : Jobs) (chains : List (List ℕ)) : Type 0 where
  pub race_free : IsRaceFree jobs
  pub certificate : IsShortCertificate jobs chains
  pub pairs : List (ℕ × ℕ)
  pub rise : PairsRise pairs
  pub near : AreNeighbours jobs pairs
  pub chains_are : AreChainsOf jobs pairs chains

-- safe too, but with more neighbours than a certificate has chains
pub record HasManyNeighbours (jobs : Jobs) : Type 0 where
  pub race_free : IsRaceFree jobs
  pub pairs : List (ℕ × ℕ)
  pub rise : PairsRise pairs
  pub near : AreNeighbours jobs pairs
  pub many : pair_limit < length pairs

-- safe with these chains, or the trace of the least race
abbrev pub IsShortVerdict : Jobs → Verdict → Type 0
IsShortVerdict jobs (Safe chains) = AreSafeByShort jobs chains
IsShortVerdict jobs (Race trace) = IsOfLeastRace jobs trace
