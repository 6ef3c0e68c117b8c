-- What a recipe does alone, and what it is to work afresh.
use Rattle.std.specs.Prelude.{ℕ, ◌≡◌, ◌||◌, Bool, true, false, List, [], ◌∷◌, Option, is_some, if◌then◌else◌, reverse}
use Rattle.mk_name.specs.Names.{Name, same_name}
use Rattle.mk_jobs.specs.Jobs.{Jobs, may_read, may_write}
use Rattle.mk_sched.specs.Stores.{Bytes, Store, bytes_of}
use Rattle.mk_sched.specs.Events.{Event, HistoryLine, Looked, Wrote, history, is_started, phase, store_after}
use Rattle.mk_sched.specs.Programs.{Program, Follows}

-- the bytes at each name, if there is a file
abbrev pub Contents : Type 0
Contents = Name → Option Bytes

-- a store without its times
abbrev pub contents : Store → Contents
contents store x = bytes_of (store x)

-- what a history leaves at x, the newest entry first, if it begins with these contents
abbrev pub left_by : Contents → List HistoryLine → Contents
left_by start [] x = start x
left_by start (Looked path seen ∷ older) x = left_by start older x
left_by start (Wrote path left ∷ older) x = if same_name path x then left else left_by start older x

-- n may make this step now: a look finds what is there, and both kinds stay in its footprint
abbrev pub IsStep : Jobs → ℕ → Contents → HistoryLine → Type 0
IsStep jobs n now (Looked path seen) = (may_read jobs n path ≡ true) × (seen ≡ now path)
IsStep jobs n now (Wrote path left) = may_write jobs n path ≡ true

-- each entry of a history is such a step, after those before it
abbrev pub AreSteps : Jobs → ℕ → Contents → List HistoryLine → Type 0
AreSteps jobs n start [] = Unit {0}
AreSteps jobs n start (e ∷ older) = AreSteps jobs n start older × IsStep jobs n (left_by start older) e

-- n does this alone: from these contents its program goes through this history, while nobody else writes
pub record Does (jobs : Jobs) (programs : ℕ → Program) (n : ℕ) (start : Contents) (history : List HistoryLine) : Type 0 where
  pub follows : Follows (programs n) (reverse history)
  pub steps : AreSteps jobs n start history

-- the history has a write of x
abbrev pub has_write : Name → List HistoryLine → Bool
has_write x [] = false
has_write x (Looked path seen ∷ older) = has_write x older
has_write x (Wrote path left ∷ older) = same_name path x || has_write x older

-- n looked at each name that it may write only after it wrote it
abbrev pub WritesFirst : Jobs → ℕ → List HistoryLine → Type 0
WritesFirst jobs n [] = Unit {0}
WritesFirst jobs n (Looked path seen ∷ older) = WritesFirst jobs n older × (may_write jobs n path ≡ true → has_write path older ≡ true)
WritesFirst jobs n (Wrote path left ∷ older) = WritesFirst jobs n older

-- n worked afresh: so it looked, and it wrote or removed each name that it may write where something stood when it started
pub record IsAfresh (jobs : Jobs) (n : ℕ) (start : Contents) (history : List HistoryLine) : Type 0 where
  pub first : WritesFirst jobs n history
  pub rest : (x : Name) → may_write jobs n x ≡ true → is_some (start x) ≡ true → has_write x history ≡ true

-- what stood at each name when n started
abbrev pub found_by : Store → List Event → ℕ → Contents
found_by opening [] n = contents opening
found_by opening (e ∷ past) n = if is_started (phase past n) then found_by opening past n else contents (store_after opening past)

-- in this run each recipe that started worked afresh
abbrev pub AreAfresh : Jobs → Store → List Event → Type 0
AreAfresh jobs opening past = (n : ℕ) → is_started (phase past n) ≡ true → IsAfresh jobs n (found_by opening past n) (history past n)
