-- Allowed events, runs, complete runs, and recipes that agree.
use Rattle.std.specs.Prelude.{ℕ, ◌≡◌, ◌<◌, Bool, true, false, List, [], ◌∷◌, reverse, Option, Some}
use Rattle.mk_name.specs.Names.{Name}
use Rattle.mk_jobs.specs.Jobs.{Jobs, IsPrerequisite, node_count, may_read, may_write}
use Rattle.mk_sched.specs.Stores.{Bytes, File, Store, bytes_of, must_run}
use Rattle.mk_sched.specs.Events.{Act, Skip, Start, Look, Put, Erase, Finish, Event, HistoryLine, Looked, Wrote, Running, Waiting, phase, is_passed, is_started, running_below, history, store_after}

-- n is ready: it is a node that waits, and its prerequisites have passed
pub record IsReady (jobs : Jobs) (past : List Event) (n : ℕ) : Type 0 where
  pub in_jobs : n < node_count jobs
  pub waits : phase past n ≡ Waiting
  pub prerequisites : (p : ℕ) → IsPrerequisite jobs p n → is_passed (phase past p) ≡ true

-- n may be skipped: it is ready, and has no recipe or is not stale
pub record MaySkip (jobs : Jobs) (tie : Bool) (opening : Store) (past : List Event) (n : ℕ) : Type 0 where
  pub ready : IsReady jobs past n
  pub fresh : must_run jobs tie (store_after opening past) n ≡ false

-- n may start: it is ready, has a recipe, is stale, and fewer than `limit` nodes run
pub record MayStart (jobs : Jobs) (tie : Bool) (limit : ℕ) (opening : Store) (past : List Event) (n : ℕ) : Type 0 where
  pub ready : IsReady jobs past n
  pub stale : must_run jobs tie (store_after opening past) n ≡ true
  pub room : running_below past (node_count jobs) < limit

-- n may look: it runs, it may read the name, and the look finds what stands there
pub record MayLook (jobs : Jobs) (opening : Store) (past : List Event) (n : ℕ) (path : Name) (seen : Option Bytes) : Type 0 where
  pub runs : phase past n ≡ Running
  pub reads : may_read jobs n path ≡ true
  pub reports : seen ≡ bytes_of (store_after opening past path)

-- n may put a file: it runs, it may write the name, and the time is above every time in the store
pub record MayPut (jobs : Jobs) (opening : Store) (past : List Event) (n : ℕ) (path : Name) (time : ℕ) : Type 0 where
  pub runs : phase past n ≡ Running
  pub writes : may_write jobs n path ≡ true
  pub newer : (x : Name) (file : File) → store_after opening past x ≡ Some file → file.time < time

-- n may erase a file: it runs, and it may write the name
pub record MayErase (jobs : Jobs) (past : List Event) (n : ℕ) (path : Name) : Type 0 where
  pub runs : phase past n ≡ Running
  pub writes : may_write jobs n path ≡ true

-- n may do this next
abbrev pub May : Jobs → Bool → ℕ → Store → List Event → ℕ → Act → Type 0
May jobs tie limit opening past n Skip = MaySkip jobs tie opening past n
May jobs tie limit opening past n Start = MayStart jobs tie limit opening past n
May jobs tie limit opening past n (Look path seen) = MayLook jobs opening past n path seen
May jobs tie limit opening past n (Put path bytes time) = MayPut jobs opening past n path time
May jobs tie limit opening past n (Erase path) = MayErase jobs past n path
May jobs tie limit opening past n Finish = phase past n ≡ Running

-- a past is a run: each of its events was allowed after those before it
abbrev pub IsRun : Jobs → Bool → ℕ → Store → List Event → Type 0
IsRun jobs tie limit opening [] = Unit {0}
IsRun jobs tie limit opening (e ∷ past) = IsRun jobs tie limit opening past × May jobs tie limit opening past e.node e.act

-- complete: every node has passed
abbrev pub IsComplete : Jobs → List Event → Type 0
IsComplete jobs past = (n : ℕ) → n < node_count jobs → is_passed (phase past n) ≡ true

-- the same step, except what a look finds
abbrev pub AlikeSteps : HistoryLine → HistoryLine → Type 0
AlikeSteps (Looked x seen) (Looked y reported) = x ≡ y
AlikeSteps (Wrote x left) (Wrote y kept) = (x ≡ y) × (left ≡ kept)
AlikeSteps (Looked x seen) (Wrote y kept) = ⊥
AlikeSteps (Wrote x left) (Looked y reported) = ⊥

-- after equal beginnings the next steps are alike, or both lists end; the oldest entry first
abbrev pub Agree : List HistoryLine → List HistoryLine → Type 0
Agree [] [] = Unit {0}
Agree (e ∷ es) (f ∷ fs) = AlikeSteps e f × (e ≡ f → Agree es fs)
Agree [] (f ∷ fs) = ⊥
Agree (e ∷ es) [] = ⊥

-- the recipes of two runs agree: so do the histories of each node that starts in both
abbrev pub RecipesAgree : List Event → List Event → Type 0
RecipesAgree a b =
    (n : ℕ) → is_started (phase a n) ≡ true → is_started (phase b n) ≡ true
    → Agree (reverse (history a n)) (reverse (history b n))
