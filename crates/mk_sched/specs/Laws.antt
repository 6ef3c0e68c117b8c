-- The headline, and the three laws that it stands on.
use Rattle.std.specs.Prelude.{ℕ, ◌≡◌, ◌<◌, Bool, true, false, List}
use Rattle.mk_name.specs.Names.{Name}
use Rattle.mk_jobs.specs.Jobs.{Jobs, IsValid, IsRaceFree, IsPrerequisite, Before, node_count, name_of, may_read}
use Rattle.mk_sched.specs.Stores.{Store, AgreesWith, bytes_of, is_stale}
use Rattle.mk_sched.specs.Events.{Event, Running, phase, is_started, history, store_after}
use Rattle.mk_sched.specs.Runs.{IsRun, IsComplete, RecipesAgree}

-- until a node starts, its own file is as at the opening
abbrev pub OwnFile : Type 0
OwnFile =
    (jobs : Jobs) (tie : Bool) (limit : ℕ) (opening : Store) (past : List Event) (n : ℕ)
    → IsValid jobs → IsRun jobs tie limit opening past → n < node_count jobs
    → is_started (phase past n) ≡ false → store_after opening past (name_of jobs n) ≡ opening (name_of jobs n)

-- a node that has started in neither of two runs is stale behind both or behind none, if its prerequisites did the same in both
abbrev pub StaleAlike : Type 0
StaleAlike =
    (jobs : Jobs) (tie : Bool) (limit other : ℕ) (opening : Store) (a b : List Event) (n : ℕ)
    → IsValid jobs → IsRun jobs tie limit opening a → IsRun jobs tie other opening b → n < node_count jobs
    → is_started (phase a n) ≡ false → is_started (phase b n) ≡ false
    → ((p : ℕ) → IsPrerequisite jobs p n → history a p ≡ history b p)
    → is_stale jobs tie (store_after opening a) n ≡ is_stale jobs tie (store_after opening b) n

-- what a running node may read is the same at the ends of two runs, if it and all nodes before it did the same in both
abbrev pub LookAlike : Type 0
LookAlike =
    (jobs : Jobs) (tie other_tie : Bool) (limit other : ℕ) (opening : Store) (a b : List Event) (n : ℕ) (x : Name)
    → IsValid jobs → IsRaceFree jobs → IsRun jobs tie limit opening a → IsRun jobs other_tie other opening b
    → phase a n ≡ Running → phase b n ≡ Running
    → history a n ≡ history b n → ((m : ℕ) → Before jobs m n → history a m ≡ history b m)
    → may_read jobs n x ≡ true → bytes_of (store_after opening a x) ≡ bytes_of (store_after opening b x)

-- the same outcome: each node started in both or in neither and did the same, and at each name both left the same bytes or nothing
pub record SameOutcome (jobs : Jobs) (opening : Store) (a b : List Event) : Type 0 where
  pub starts : (n : ℕ) → n < node_count jobs → is_started (phase a n) ≡ is_started (phase b n)
  pub histories : (n : ℕ) → n < node_count jobs → history a n ≡ history b n
  pub files : (x : Name) → bytes_of (store_after opening a x) ≡ bytes_of (store_after opening b x)

-- determinate: any two complete runs from one store with one `tie`, whose recipes agree, have the same outcome
abbrev pub IsDeterminate : Jobs → Type 0
IsDeterminate jobs =
    (opening : Store) (tie : Bool) (limit other : ℕ) (a b : List Event)
    → AgreesWith jobs opening → IsRun jobs tie limit opening a → IsRun jobs tie other opening b
    → IsComplete jobs a → IsComplete jobs b → RecipesAgree a b → SameOutcome jobs opening a b

-- the headline: valid jobs that are race-free are determinate
abbrev pub Headline : Type 0
Headline = (jobs : Jobs) → IsValid jobs → IsRaceFree jobs → IsDeterminate jobs
