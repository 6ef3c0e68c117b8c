-- Nodes that are stale in every run from an opening of which only the times of the nodes' own files are known.
use Rattle.std.specs.Prelude.{ℕ, ◌≡◌, ◌<◌, ◌||◌, not, nat_lt, Bool, true, false, List, Some}
use Rattle.std.specs.List.{list_any}
use Rattle.mk_jobs.specs.Jobs.{Jobs, IsValid, node_count, name_of, prerequisites_of, is_phony, is_listed}
use Rattle.mk_sched.specs.Stores.{Store, File, AgreesWith, is_stale}
use Rattle.mk_sched.specs.Events.{Event, phase, is_started, store_after}
use Rattle.mk_sched.specs.Runs.{IsRun}

-- the nodes' files in this store have these times
abbrev pub HasTimes : Jobs → (ℕ → ℕ) → Store → Type 0
HasTimes jobs times store =
    (n : ℕ) (file : File) → n < node_count jobs → store (name_of jobs n) ≡ Some file → file.time ≡ times n

-- n is surely stale: phony or not listed, or one of its prerequisites is phony, not listed or newer by these times
abbrev pub surely_stale : Jobs → (ℕ → ℕ) → ℕ → Bool
surely_stale jobs times n =
    is_phony jobs n || not (is_listed jobs n)
    || list_any (λ p. is_phony jobs p || not (is_listed jobs p) || nat_lt (times n) (times p)) (prerequisites_of jobs n)

-- a node that is surely stale is stale in every run, with any `tie` and any limit, from every opening that agrees with the
-- jobs and has these times, for as long as it has not started
abbrev pub SurelyStale : Type 0
SurelyStale =
    (jobs : Jobs) (times : ℕ → ℕ) (tie : Bool) (limit : ℕ) (opening : Store) (past : List Event) (n : ℕ)
    → IsValid jobs → AgreesWith jobs opening → HasTimes jobs times opening → IsRun jobs tie limit opening past → n < node_count jobs
    → is_started (phase past n) ≡ false → surely_stale jobs times n ≡ true → is_stale jobs tie (store_after opening past) n ≡ true
