-- What a log is to a build: whether its events are a run of the build's jobs, and what they leave.
use Rattle.std.specs.Prelude.{ℕ, Bool, List, Result, Ok, Err, ◌⊎◌}
use Rattle.mk_name.specs.Names.{Name, has, same_name}
use Rattle.mk_name.specs.Reported.{Reported}
use Rattle.mk_jobs.specs.Jobs.{Jobs}
use Rattle.mk_sched.specs.Replayed.{IsEventRefused, IsReplayed, IsStoreRefused}
use Rattle.mk_sched.specs.Stored.{StoredFiles}
use Rattle.mk_sched.specs.declared.refusal.Refusal.{Refusal}
use Rattle.mk_log.specs.Reading.{IsLogRead}
use Rattle.mk_log.specs.Logs.{Log}
use Rattle.mk_race.specs.Stages.{IsPrepared, Texts, ThenAny}
use Rattle.mk_race.specs.declared.preparing.Prepared.{Prepared}
use Rattle.mk_race.specs.declared.replaying.Played.{Played}
use Rattle.mk_race.specs.declared.replaying.Played.TheVariants.{Allowed, NotAllowed}

-- the log's files are refused, or the event at this place is
abbrev pub IsNotAllowed : Jobs → List Name → ℕ → Bool → Log → ℕ → Refusal → Type 0
IsNotAllowed jobs listed limit tie log place refusal = (files : StoredFiles) ×
    (IsStoreRefused (has same_name listed) log.store files place refusal
    ⊎ IsEventRefused jobs (has same_name listed) tie limit log.store log.events files place refusal)

-- what the events of a log come to, from its files: a run, with what it leaves; or a refusal
abbrev pub IsOutcome : Jobs → List Name → ℕ → Bool → Log → Result Played Reported → Type 0
IsOutcome jobs listed limit tie log (Ok (Allowed replayed)) =
    IsReplayed jobs (has same_name listed) tie limit log.store log.events replayed.store replayed.complete
IsOutcome jobs listed limit tie log (Ok (NotAllowed place refusal)) = IsNotAllowed jobs listed limit tie log place refusal
IsOutcome jobs listed limit tie log (Err reported) = ⊥

-- the log below the root, and then what its events come to
abbrev pub IsPlayedOn : Prepared → List ℕ → ℕ → Bool → Result Played Reported → Type 0
IsPlayedOn prepared log limit tie =
    ThenAny (IsLogRead prepared.jobs prepared.root log) (λ read. IsOutcome prepared.jobs prepared.listing limit tie read)

-- the jobs, and then the log on them
abbrev pub IsPlayed : Texts → List ℕ → List ℕ → ℕ → Bool → Result Played Reported → Type 0
IsPlayed texts footprints log limit tie = ThenAny (IsPrepared texts footprints) (λ prepared. IsPlayedOn prepared log limit tie)
