-- The answer of a build, and what it says of the build's runs where it is that the build is safe.
use Rattle.std.specs.Prelude.{ℕ, ◌≡◌, Bool, true, false, List, Result, Ok, Err}
use Rattle.mk_name.specs.Names.{has, same_name}
use Rattle.mk_name.specs.Reported.{Reported}
use Rattle.mk_jobs.specs.Jobs.{Jobs}
use Rattle.mk_sched.specs.Events.{Event}
use Rattle.mk_sched.specs.Laws.{IsDeterminate, SameOutcome}
use Rattle.mk_sched.specs.Runs.{IsComplete, RecipesAgree}
use Rattle.mk_sched.specs.Schedules.{IsSchedule, stays}
use Rattle.mk_sched.specs.Stores.{AgreesWithListing, Store}
use Rattle.mk_cert.specs.Traces.{TraceHolds}
use Rattle.mk_decide.specs.Decisions.{IsVerdict}
use Rattle.mk_decide.specs.Pairs.{HasFewPairs, HasManyPairs, too_many}
use Rattle.mk_decide.specs.ShortVerdicts.{HasManyNeighbours, IsShortVerdict}
use Rattle.mk_decide.specs.declared.decision.Verdict.{Verdict}
use Rattle.mk_decide.specs.declared.decision.Verdict.TheVariants as verdicts
use Rattle.mk_report.specs.declared.answer.BuildAnswer.{BuildAnswer}
use Rattle.mk_report.specs.declared.answer.BuildAnswer.TheVariants.{Safe, Race, Refused}
use Rattle.mk_race.specs.Stages.{IsPrepared, Texts}
use Rattle.mk_race.specs.declared.preparing.Prepared.{Prepared}

-- a verdict on jobs: a short one where that is asked for, else one in full, with not too many pairs that clash
abbrev pub IsVerdictOn : Bool → Jobs → Verdict → Type 0
IsVerdictOn false jobs verdict = HasFewPairs jobs × IsVerdict jobs verdict
IsVerdictOn true jobs verdict = IsShortVerdict jobs verdict

-- there are too many pairs for such a verdict: of neighbours, or of all that clash
abbrev pub HasTooMany : Bool → Jobs → Type 0
HasTooMany false = HasManyPairs
HasTooMany true = HasManyNeighbours

-- what is decided of jobs, with them: safe by a certificate, or the trace of a race; else there are too many pairs, and they are refused
abbrev pub IsDecided : Bool → Jobs → BuildAnswer → Type 0
IsDecided short jobs (Safe given chains) = (given ≡ jobs) × IsVerdictOn short jobs (verdicts.Safe chains)
IsDecided short jobs (Race given trace) = (given ≡ jobs) × IsVerdictOn short jobs (verdicts.Race trace)
IsDecided short jobs (Refused reported) = (reported ≡ too_many) × HasTooMany short jobs

-- a fault is answered by a refusal; a value goes on to its answer
abbrev pub ThenAnswer : {X : Type 0} → Result X Reported → (X → BuildAnswer → Type 0) → BuildAnswer → Type 0
ThenAnswer (Ok value) next answer = next value answer
ThenAnswer (Err reported) next answer = answer ≡ Refused reported

-- the answer of a build: the stages give its jobs or their first fault, and then it is answered
abbrev pub IsAnswered : Bool → Texts → List ℕ → BuildAnswer → Type 0
IsAnswered short texts footprints answer =
    (given : Result Prepared Reported) × IsPrepared texts footprints given × ThenAnswer given (λ prepared. IsDecided short prepared.jobs) answer

-- the answer is that the build is safe
abbrev pub IsSafeAnswer : BuildAnswer → Type 0
IsSafeAnswer (Safe jobs chains) = Unit {0}
IsSafeAnswer _ = ⊥

-- the jobs that are handed out as safe are determinate
abbrev pub HoldsOfSafe : BuildAnswer → Type 0
HoldsOfSafe (Safe jobs chains) = IsDeterminate jobs
HoldsOfSafe _ = Unit {0}

-- the trace of a race holds of its jobs
abbrev pub HoldsOfRace : BuildAnswer → Type 0
HoldsOfRace (Race jobs trace) = TraceHolds jobs trace
HoldsOfRace _ = Unit {0}

-- from one store that has the files of the listing and no other: each complete schedule of the jobs has the outcome of a complete one
-- that stays within the footprints, if their recipes agree
abbrev pub RunsAlike : Prepared → Type 0
RunsAlike prepared =
    (opening : Store) (tie : Bool) (limit other : ℕ) (seen past : List Event)
    → AgreesWithListing (has same_name prepared.listing) opening
    → IsSchedule prepared.jobs tie limit opening seen → stays prepared.jobs seen ≡ true → IsComplete prepared.jobs seen
    → IsSchedule prepared.jobs tie other opening past → IsComplete prepared.jobs past
    → RecipesAgree seen past → SameOutcome prepared.jobs opening seen past

-- no schedule of a build shows in its files: its texts mean jobs and a listing, and no others, and the runs of these are alike
pub record NoScheduleShows (texts : Texts) (footprints : List ℕ) : Type 0 where
  pub prepared : Prepared
  pub build : IsPrepared texts footprints (Ok prepared)
  pub only : (other : Prepared) → IsPrepared texts footprints (Ok other) → prepared ≡ other
  pub alike : RunsAlike prepared
