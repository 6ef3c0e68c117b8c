-- Agreeing recipes, idle recipes and agreement with a listing, in the plainest words.
use Rattle.std.specs.Prelude.{ℕ, ◌≡◌, ◌<◌, ◌↔◌, Bool, true, false, List, Option, Some, None, take, slice_get}
use Rattle.mk_name.specs.Names.{Name}
use Rattle.mk_jobs.specs.Jobs.{Jobs, IsValid, node_count, name_of, is_idle, is_listed}
use Rattle.mk_sched.specs.Stores.{Store, AgreesWith, AgreesWithListing, is_stale}
use Rattle.mk_sched.specs.Events.{Event, HistoryLine, phase, is_started, store_after}
use Rattle.mk_sched.specs.Runs.{AlikeSteps, Agree, IsRun}

-- the next steps are alike, or both lists end here
abbrev pub NextAlike : Option HistoryLine → Option HistoryLine → Type 0
NextAlike None None = Unit {0}
NextAlike (Some e) (Some f) = AlikeSteps e f
NextAlike None (Some f) = ⊥
NextAlike (Some e) None = ⊥

-- wherever two histories share their first k entries, they go on alike
abbrev pub GoOnAlike : List HistoryLine → List HistoryLine → Type 0
GoOnAlike xs ys = (k : ℕ) → take k xs ≡ take k ys → NextAlike (slice_get xs k) (slice_get ys k)

-- two histories agree exactly where they go on alike
abbrev pub AgreeMeans : Type 0
AgreeMeans = (xs ys : List HistoryLine) → Agree xs ys ↔ GoOnAlike xs ys

-- an idle node is not stale before it starts
abbrev pub IdleIsFresh : Type 0
IdleIsFresh =
    (jobs : Jobs) (tie : Bool) (limit : ℕ) (opening : Store) (past : List Event) (n : ℕ)
    → IsValid jobs → AgreesWith jobs opening → IsRun jobs tie limit opening past → n < node_count jobs
    → is_idle jobs n ≡ true → is_started (phase past n) ≡ false → is_stale jobs tie (store_after opening past) n ≡ false

-- so an idle recipe never starts
abbrev pub IdleNeverStarts : Type 0
IdleNeverStarts =
    (jobs : Jobs) (tie : Bool) (limit : ℕ) (opening : Store) (past : List Event) (n : ℕ)
    → IsValid jobs → AgreesWith jobs opening → IsRun jobs tie limit opening past → n < node_count jobs
    → is_idle jobs n ≡ true → is_started (phase past n) ≡ false

-- a store that agrees with the listing of a plan agrees with its jobs
abbrev pub ListingAgrees : Type 0
ListingAgrees =
    (jobs : Jobs) (listed : Name → Bool) (opening : Store)
    → ((n : ℕ) → n < node_count jobs → is_listed jobs n ≡ listed (name_of jobs n))
    → AgreesWithListing listed opening → AgreesWith jobs opening
