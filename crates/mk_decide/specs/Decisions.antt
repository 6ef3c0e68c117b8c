-- What is decided about jobs.
use Rattle.std.specs.Prelude.{ℕ, List}
use Rattle.mk_jobs.specs.Jobs.{Jobs, IsRaceFree}
use Rattle.mk_proof.specs.Shapes.{Trace}
use Rattle.mk_cert.specs.Certificates.{IsCertificate}
use Rattle.mk_decide.specs.declared.decision.Verdict.{Verdict}
use Rattle.mk_decide.specs.declared.decision.Verdict.TheVariants.{Safe, Race}
use Rattle.mk_decide.specs.LeastTraces.{IsOfLeastRace}
use Rattle.mk_decide.specs.Pairs.{ArePairs, HasFewPairs}
use Rattle.mk_decide.specs.Verdicts.{AreChainsOf}

-- safe: the jobs are race-free, and not too many pairs clash for a certificate
pub record AreSafe (jobs : Jobs) : Type 0 where
  pub race_free : IsRaceFree jobs
  pub few : HasFewPairs jobs

-- safe by chains: the jobs are race-free, and the chains are a certificate of just the clashing pairs
pub record AreSafeBy (jobs : Jobs) (chains : List (List ℕ)) : Type 0 where
  pub race_free : IsRaceFree jobs
  pub certificate : IsCertificate jobs chains
  pub pairs : List (ℕ × ℕ)
  pub clash : ArePairs jobs pairs
  pub chains_are : AreChainsOf jobs pairs chains

-- safe with these chains, or the trace of the least race
abbrev pub IsVerdict : Jobs → Verdict → Type 0
IsVerdict jobs (Safe chains) = AreSafeBy jobs chains
IsVerdict jobs (Race trace) = IsOfLeastRace jobs trace

-- the verdict is that the jobs are safe
abbrev pub IsSafe : Verdict → Type 0
IsSafe (Safe chains) = Unit {0}
IsSafe (Race trace) = ⊥

-- where the verdict is a race, this is true of its trace
abbrev pub IfRace : Verdict → (Trace → Type 0) → Type 0
IfRace (Safe chains) P = Unit {0}
IfRace (Race trace) P = P trace
