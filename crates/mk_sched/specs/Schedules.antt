-- Schedules: what may happen whatever the footprints are, and what one that stays within them says of all others.
use Rattle.std.specs.Prelude.{ℕ, ◌≡◌, ◌<◌, ◌↔◌, Bool, true, List, [], ◌∷◌, reverse, Some}
use Rattle.mk_name.specs.Names.{Name}
use Rattle.std.specs.List.{list_all}
use Rattle.mk_jobs.specs.Jobs.{Jobs, IsValid, IsRaceFree}
use Rattle.mk_sched.specs.Stores.{File, Store, AgreesWith, bytes_of}
use Rattle.mk_sched.specs.Events.{Act, Skip, Start, Look, Put, Erase, Finish, Event, HistoryLine, Running, Ran, phase, is_started, history, store_after}
use Rattle.mk_sched.specs.Runs.{MaySkip, MayStart, IsRun, IsComplete, AlikeSteps, Agree, RecipesAgree}
use Rattle.mk_sched.specs.Refusals.{IsNewPut, is_within}
use Rattle.mk_sched.specs.Laws.{SameOutcome}

-- the time is after that of each file that is as it was at the opening
abbrev pub IsAfterOld : Store → Store → ℕ → Type 0
IsAfterOld opening store time = (x : Name) (file : File) → opening x ≡ Some file → store x ≡ Some file → file.time < time

-- n can do this next, wherever its footprints let it look and write; a put may be as old as other puts
abbrev pub Can : Jobs → Bool → ℕ → Store → List Event → ℕ → Act → Type 0
Can jobs tie limit opening past n Skip = MaySkip jobs tie opening past n
Can jobs tie limit opening past n Start = MayStart jobs tie limit opening past n
Can jobs tie limit opening past n (Look path seen) = (phase past n ≡ Running) × (seen ≡ bytes_of (store_after opening past path))
Can jobs tie limit opening past n (Put path bytes time) = (phase past n ≡ Running) × IsAfterOld opening (store_after opening past) time
Can jobs tie limit opening past n (Erase path) = phase past n ≡ Running
Can jobs tie limit opening past n Finish = phase past n ≡ Running

-- a past is a schedule: each of its events could happen after those before it
abbrev pub IsSchedule : Jobs → Bool → ℕ → Store → List Event → Type 0
IsSchedule jobs tie limit opening [] = Unit {0}
IsSchedule jobs tie limit opening (e ∷ past) = IsSchedule jobs tie limit opening past × Can jobs tie limit opening past e.node e.act

-- a past stays: each act is within the footprint of its node
abbrev pub stays : Jobs → List Event → Bool
stays jobs past = list_all (λ e. is_within jobs e.node e.act) past

-- times rise: each put is newer than every file
abbrev pub TimesRise : Store → List Event → Type 0
TimesRise opening [] = Unit {0}
TimesRise opening (e ∷ past) = TimesRise opening past × IsNewPut (store_after opening past) e.act

-- a run is a schedule that stays and in which times rise
abbrev pub RunIsSchedule : Type 0
RunIsSchedule =
    (jobs : Jobs) (tie : Bool) (limit : ℕ) (opening : Store) (past : List Event)
    → IsRun jobs tie limit opening past ↔ IsSchedule jobs tie limit opening past × (stays jobs past ≡ true) × TimesRise opening past

-- after equal beginnings the next steps are alike, as far as the second list goes
abbrev pub AgreeSoFar : List HistoryLine → List HistoryLine → Type 0
AgreeSoFar [] [] = Unit {0}
AgreeSoFar (e ∷ es) [] = Unit {0}
AgreeSoFar (e ∷ es) (f ∷ fs) = AlikeSteps e f × (e ≡ f → AgreeSoFar es fs)
AgreeSoFar [] (f ∷ fs) = ⊥

-- the recipes of a past, which may be unfinished, agree so far with those of a complete one: the whole history of each node
-- that finished, and what each running one did up to now
pub record RecipesAgreeSoFar (seen past : List Event) : Type 0 where
  pub finished : (n : ℕ) → is_started (phase seen n) ≡ true → phase past n ≡ Ran → Agree (reverse (history seen n)) (reverse (history past n))
  pub running : (n : ℕ) → is_started (phase seen n) ≡ true → phase past n ≡ Running → AgreeSoFar (reverse (history seen n)) (reverse (history past n))

-- others stay: where one complete schedule of valid race-free jobs stays, so does each whose recipes agree with it so far
abbrev pub OthersStay : Type 0
OthersStay =
    (jobs : Jobs) (tie : Bool) (limit other : ℕ) (opening : Store) (seen past : List Event)
    → IsValid jobs → IsRaceFree jobs → IsSchedule jobs tie limit opening seen → stays jobs seen ≡ true → IsComplete jobs seen
    → IsSchedule jobs tie other opening past → RecipesAgreeSoFar seen past → stays jobs past ≡ true

-- determinate from one run: each complete schedule has the outcome of a complete one that stays, from one store with one `tie`, if
-- their recipes agree; so any two have the same
abbrev pub IsDeterminateFromOneRun : Jobs → Type 0
IsDeterminateFromOneRun jobs =
    (opening : Store) (tie : Bool) (limit other : ℕ) (seen past : List Event)
    → AgreesWith jobs opening → IsSchedule jobs tie limit opening seen → stays jobs seen ≡ true → IsComplete jobs seen
    → IsSchedule jobs tie other opening past → IsComplete jobs past → RecipesAgree seen past → SameOutcome jobs opening seen past

-- the headline for records: valid jobs that are race-free are determinate from one run
abbrev pub DeterminateFromOneRun : Type 0
DeterminateFromOneRun = (jobs : Jobs) → IsValid jobs → IsRaceFree jobs → IsDeterminateFromOneRun jobs
