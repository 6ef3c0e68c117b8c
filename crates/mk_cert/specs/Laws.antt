-- Laws of certificates and traces.
use Rattle.std.specs.Prelude.{ℕ, ◌≡◌, ◌≢◌, ◌<◌, Bool, true, false, List, ◌∷◌}
use Rattle.mk_jobs.specs.Jobs.{Jobs, Before, Clash, IsRaceFree, IsValid, node_count}
use Rattle.mk_jobs.specs.Reaching.{uses_of}
use Rattle.mk_jobs.specs.Shape.{IsWellFormed}
use Rattle.mk_path.specs.declared.path.Path.{Path}
use Rattle.mk_path.specs.Texts.{text_of}
use Rattle.mk_index.specs.Uses.{IsOverlap}
use Rattle.mk_sched.specs.Stores.{Store, AgreesWith, is_stale}
use Rattle.mk_sched.specs.Events.{Event, Running, phase, is_started, running_below, store_after}
use Rattle.mk_sched.specs.Runs.{IsRun}
use Rattle.mk_sched.specs.Laws.{IsDeterminate}
use Rattle.mk_sched.specs.Sure.{HasTimes}
use Rattle.mk_sched.specs.Counter.{Moves}
use Rattle.mk_proof.specs.Shapes.{Trace}
use Rattle.mk_cert.specs.Certificates.{IsCertificate, IsAtEnds}
use Rattle.mk_cert.specs.Traces.{ClashesOn, Fits, TraceHolds, event_of, past_of}
use Rattle.mk_cert.specs.Sure.{IsSure, passes, surely_fresh}
use Rattle.mk_cert.specs.Races.{ReportsEarly, race_trace}
use Rattle.mk_proof.specs.declared.step.Step.{Step}

-- jobs with a certificate are race-free
abbrev pub CertificateIsRaceFree : Type 0
CertificateIsRaceFree = (jobs : Jobs) (chains : List (List ℕ)) → IsCertificate jobs chains → IsRaceFree jobs

-- so valid jobs with a certificate are determinate
abbrev pub CertificateIsDeterminate : Type 0
CertificateIsDeterminate =
    (jobs : Jobs) (chains : List (List ℕ)) → IsValid jobs → IsCertificate jobs chains → IsDeterminate jobs

-- of two nodes that clash the smaller one stands at the beginning of the chain between them
abbrev pub SmallerFirst : Type 0
SmallerFirst =
    (jobs : Jobs) (chains : List (List ℕ)) (a b : ℕ)
    → IsValid jobs → IsCertificate jobs chains → Clash jobs a b → a < b → IsAtEnds chains a b

-- until it starts, a node that is surely fresh is not stale, in any run, with any `tie` and any limit, from any opening that
-- agrees with the jobs and has these times
abbrev pub SurelyFresh : Type 0
SurelyFresh =
    (jobs : Jobs) (times : ℕ → ℕ) (tie : Bool) (limit : ℕ) (opening : Store) (past : List Event) (n : ℕ)
    → IsValid jobs → AgreesWith jobs opening → HasTimes jobs times opening → IsRun jobs tie limit opening past → n < node_count jobs
    → is_started (phase past n) ≡ false → surely_fresh jobs times (phase past) n ≡ true
    → is_stale jobs tie (store_after opening past) n ≡ false

-- a trace that passes the test holds
abbrev pub SureTraceHolds : Type 0
SureTraceHolds = (jobs : Jobs) (trace : Trace) → IsValid jobs → IsSure jobs trace → TraceHolds jobs trace

-- the trace of two nodes that clash, of which neither is before the other, passes it
abbrev pub RaceTraceIsSure : Type 0
RaceTraceIsSure =
    (jobs : Jobs) (early : ℕ → Bool) (first second : ℕ) (path : List ℕ)
    → IsValid jobs → ClashesOn jobs first second path → (Before jobs first second → ⊥) → (Before jobs second first → ⊥)
    → ReportsEarly jobs first second early → IsSure jobs (race_trace jobs early first second path)

-- so it holds
abbrev pub RaceTraceHolds : Type 0
RaceTraceHolds =
    (jobs : Jobs) (early : ℕ → Bool) (first second : ℕ) (path : List ℕ)
    → IsValid jobs → ClashesOn jobs first second path → (Before jobs first second → ⊥) → (Before jobs second first → ⊥)
    → ReportsEarly jobs first second early → TraceHolds jobs (race_trace jobs early first second path)

-- from any store that fits, and with any `tie`, the steps of a trace that holds are themselves a run, and both nodes run at
-- its end
abbrev pub StepsAreRun : Type 0
StepsAreRun =
    (jobs : Jobs) (trace : Trace) (tie : Bool) (opening : Store)
    → TraceHolds jobs trace → Fits jobs trace.times opening
    → IsRun jobs tie 2 opening (past_of trace.steps)
    × (phase (past_of trace.steps) trace.first ≡ Running) × (phase (past_of trace.steps) trace.second ≡ Running)

-- and there is such a store
abbrev pub StoreFits : Type 0
StoreFits = (jobs : Jobs) (times : List (ℕ × ℕ)) → IsWellFormed jobs → (opening : Store) × Fits jobs times opening

-- jobs of which a trace holds are not race-free
abbrev pub TraceRefutes : Type 0
TraceRefutes = (jobs : Jobs) (trace : Trace) → IsWellFormed jobs → TraceHolds jobs trace → IsRaceFree jobs → ⊥

-- so some store opens a run of just these steps, with either `tie`, at whose end both nodes run
abbrev pub HoldsForARun : Type 0
HoldsForARun =
    (jobs : Jobs) (trace : Trace) (tie : Bool) → IsWellFormed jobs → TraceHolds jobs trace
    → (opening : Store) × Fits jobs trace.times opening
    × IsRun jobs tie 2 opening (past_of trace.steps)
    × (phase (past_of trace.steps) trace.first ≡ Running) × (phase (past_of trace.steps) trace.second ≡ Running)

-- two nodes clash on each overlap of their paths, as it is spelled
abbrev pub OverlapsClash : Type 0
OverlapsClash =
    (jobs : Jobs) (a b : ℕ) (p : Path)
    → IsWellFormed jobs → a ≢ b → IsOverlap (uses_of jobs) a b p → ClashesOn jobs a b (text_of p)

-- a start that passes adds one to the nodes that run, a finish takes one off, and a skip leaves them
abbrev pub StepMoves : Type 0
StepMoves =
    (jobs : Jobs) (times : ℕ → ℕ) (past : List Event) (step : Step) → passes jobs times (phase past) step ≡ true
    → Moves (event_of step).act (running_below past (node_count jobs)) (running_below (event_of step ∷ past) (node_count jobs))
