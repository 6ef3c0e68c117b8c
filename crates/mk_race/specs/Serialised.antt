-- What comes of a log that is to be put in serial order.
use Rattle.std.specs.Prelude.{ℕ, ◌≡◌, Bool, List, length, Result, Ok, Err}
use Rattle.mk_name.specs.Names.{Name, has, same_name}
use Rattle.mk_name.specs.Reported.{Reported}
use Rattle.mk_jobs.specs.Jobs.{IsRaceFree, Jobs, node_count}
use Rattle.mk_sched.specs.Runs.{IsComplete, IsRun}
use Rattle.mk_sched.specs.Serial.{SerialisedAs, serial}
use Rattle.mk_sched.specs.Serialising.{HasRoom, latest}
use Rattle.mk_sched.specs.Steps.{past_of}
use Rattle.mk_sched.specs.Stored.{store_of}
use Rattle.mk_sched.specs.Stores.{AgreesWithListing}
use Rattle.mk_decide.specs.LeastTraces.{IsOfLeastRace}
use Rattle.mk_decide.specs.Pairs.{HasFewPairs, HasManyPairs, too_many}
use Rattle.mk_log.specs.Logs.{Log}
use Rattle.mk_log.specs.Reading.{IsLogRead}
use Rattle.mk_race.specs.Played.{IsNotAllowed}
use Rattle.mk_race.specs.Stages.{IsPrepared, Texts, ThenAny}
use Rattle.mk_race.specs.declared.preparing.Prepared.{Prepared}
use Rattle.mk_race.specs.declared.serialising.Ordered.{Ordered}
use Rattle.mk_race.specs.declared.serialising.Ordered.TheVariants.{Serial, NotAllowed, NotComplete, Race, NoRoom}
use Rattle.mk_race.specs.declared.serialising.Serialised.{Serialised}

-- the log's files are those of the listing, and its events are a run from them
pub record IsRunOf (jobs : Jobs) (listed : List Name) (limit : ℕ) (tie : Bool) (log : Log) : Type 0 where
  pub agrees : AgreesWithListing (has same_name listed) (store_of log.store)
  pub run : IsRun jobs tie limit (store_of log.store) (past_of log.events)

-- and in the run every node has passed
pub record IsCompleteLog (jobs : Jobs) (listed : List Name) (limit : ℕ) (tie : Bool) (log : Log) : Type 0 where
  pub is_run : IsRunOf jobs listed limit tie log
  pub complete : IsComplete jobs (past_of log.events)

-- behind the time of each of the log's files there is a later one for each event
abbrev pub HasTimesLeft : Log → Type 0
HasTimesLeft log = HasRoom (store_of log.store) (length log.events)

-- the files of a log, and its events as the serial list: node after node, the k-th put at the greatest time of the files plus k
pub record IsInSerialOrder (jobs : Jobs) (log list : Log) : Type 0 where
  pub files : list.store ≡ log.store
  pub events : past_of list.events ≡ serial (latest log.store) (past_of log.events) (node_count jobs)

-- a complete run of race-free jobs, of which not too many pairs clash, with room for times, put in serial order
pub record IsPutInOrder (jobs : Jobs) (listed : List Name) (limit : ℕ) (tie : Bool) (log list : Log) : Type 0 where
  pub whole : IsCompleteLog jobs listed limit tie log
  pub few : HasFewPairs jobs
  pub race_free : IsRaceFree jobs
  pub room : HasTimesLeft log
  pub in_order : IsInSerialOrder jobs log list

-- what comes of a log: it has to be a run, that has to be complete, not too many pairs may clash, the jobs have to be race-free,
-- and there has to be room
abbrev pub IsLogOrder : Jobs → List Name → ℕ → Bool → Log → Result Ordered Reported → Type 0
IsLogOrder jobs listed limit tie log (Ok (NotAllowed place refusal)) = IsNotAllowed jobs listed limit tie log place refusal
IsLogOrder jobs listed limit tie log (Ok NotComplete) = IsRunOf jobs listed limit tie log × (IsComplete jobs (past_of log.events) → ⊥)
IsLogOrder jobs listed limit tie log (Err reported) = IsCompleteLog jobs listed limit tie log × (reported ≡ too_many) × HasManyPairs jobs
IsLogOrder jobs listed limit tie log (Ok (Race trace)) = IsCompleteLog jobs listed limit tie log × HasFewPairs jobs × IsOfLeastRace jobs trace
IsLogOrder jobs listed limit tie log (Ok NoRoom) = IsCompleteLog jobs listed limit tie log × HasFewPairs jobs × IsRaceFree jobs × (HasTimesLeft log → ⊥)
IsLogOrder jobs listed limit tie log (Ok (Serial list)) = IsPutInOrder jobs listed limit tie log list

-- the log below the root, and then what comes of it
abbrev pub IsOrderOn : Prepared → List ℕ → ℕ → Bool → Result Ordered Reported → Type 0
IsOrderOn prepared log limit tie =
    ThenAny (IsLogRead prepared.jobs prepared.root log) (λ read. IsLogOrder prepared.jobs prepared.listing limit tie read)

-- with that go the jobs
abbrev pub IsSerialisedOn : Prepared → List ℕ → ℕ → Bool → Result Serialised Reported → Type 0
IsSerialisedOn prepared log limit tie =
    ThenAny (IsOrderOn prepared log limit tie) (λ order answer. answer ≡ Ok (record { jobs = prepared.jobs; order = order }))

-- the jobs, and then the log on them
abbrev pub IsSerialised : Texts → List ℕ → List ℕ → ℕ → Bool → Result Serialised Reported → Type 0
IsSerialised texts footprints log limit tie = ThenAny (IsPrepared texts footprints) (λ prepared. IsSerialisedOn prepared log limit tie)

-- the same files, and a complete serial run of the same outcome: each node starts in both or in none and does the same, and
-- both leave the same at each name
pub record IsSameBuild (jobs : Jobs) (tie : Bool) (log list : Log) : Type 0 where
  pub files : list.store ≡ log.store
  pub law : SerialisedAs jobs tie (store_of log.store) (past_of log.events) (past_of list.events)

-- what is put in serial order is the same build as the log
abbrev pub IsLawful : Jobs → Bool → Log → Ordered → Type 0
IsLawful jobs tie log (Serial list) = IsSameBuild jobs tie log list
IsLawful jobs tie log (NotAllowed place refusal) = Unit {0}
IsLawful jobs tie log NotComplete = Unit {0}
IsLawful jobs tie log (Race trace) = Unit {0}
IsLawful jobs tie log NoRoom = Unit {0}

-- it is the same build as the log of this text on the jobs of a build
pub record IsLawfulOn (prepared : Prepared) (log : List ℕ) (tie : Bool) (order : Ordered) : Type 0 where
  pub read : Log
  pub is_read : IsLogRead prepared.jobs prepared.root log (Ok read)
  pub lawful : IsLawful prepared.jobs tie read order

-- and the jobs are those of these texts
pub record IsLawfulBuild (texts : Texts) (footprints log : List ℕ) (tie : Bool) (given : Serialised) : Type 0 where
  pub prepared : Prepared
  pub is_prepared : IsPrepared texts footprints (Ok prepared)
  pub jobs : given.jobs ≡ prepared.jobs
  pub lawful : IsLawfulOn prepared log tie given.order
