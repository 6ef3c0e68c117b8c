-- The three laws that the second headline rests on.
use Rattle.std.specs.Prelude.{ℕ, ◌≡◌, Bool, true, false, List}
use Rattle.mk_name.specs.Names.{Name}
use Rattle.mk_jobs.specs.Jobs.{Jobs, IsValid, IsRaceFree, is_live}
use Rattle.mk_sched.specs.Stores.{Store, bytes_of, is_stale}
use Rattle.mk_sched.specs.Events.{Event, HistoryLine, store_after}
use Rattle.mk_sched.specs.Programs.{Program}
use Rattle.mk_sched.specs.Schedules.{stays}
use Rattle.mk_missing.specs.Watching.{Carries, IsLastWriter, IsInput, IsDeclared}
use Rattle.mk_missing.specs.Doings.{Contents, left_by, Does, IsAfresh}
use Rattle.mk_missing.specs.Incremental.{HasSources, SameSources, IsEdit, IsBuild}

-- n is settled: it once did its work alone and afresh from inputs that are the same now, and what it left is there at each name that it
-- writes last
pub record IsSettled (jobs : Jobs) (programs : ℕ → Program) (store : Store) (n : ℕ) : Type 0 where
  pub start : Contents
  pub history : List HistoryLine
  pub does : Does jobs programs n start history
  pub afresh : IsAfresh jobs n start history
  pub inputs : (x : Name) → IsInput jobs n x → start x ≡ bytes_of (store x)
  pub stays : (x : Name) → IsLastWriter jobs n x → bytes_of (store x) ≡ left_by start history x

-- n will run in every build of this store: it is stale, even if equal times do not count; or a node that will run carries to it
pub data WillRun (jobs : Jobs) (store : Store) : ℕ → Type 0 where
  stale : {n : ℕ} → is_live jobs n ≡ true → is_stale jobs false store n ≡ true → WillRun jobs store n
  carried : {m n : ℕ} → WillRun jobs store m → Carries jobs m n → WillRun jobs store n

-- every live node is settled
abbrev pub AllSettled : Jobs → (ℕ → Program) → Store → Type 0
AllSettled jobs programs store = (n : ℕ) → is_live jobs n ≡ true → IsSettled jobs programs store n

-- every live node is known: if it will not run, it is settled
abbrev pub AllKnown : Jobs → (ℕ → Program) → Store → Type 0
AllKnown jobs programs store = (n : ℕ) → is_live jobs n ≡ true → (WillRun jobs store n → ⊥) → IsSettled jobs programs store n

-- a build of a store whose nodes are known, if it stays, leaves one whose nodes are settled
abbrev pub BuildSettles : Type 0
BuildSettles =
    (jobs : Jobs) (programs : ℕ → Program) (fixed : Name → Bool) (opening : Store) (past : List Event)
    → IsValid jobs → IsRaceFree jobs → IsDeclared jobs fixed → HasSources jobs opening
    → AllKnown jobs programs opening → IsBuild jobs programs opening past → stays jobs past ≡ true → AllSettled jobs programs (store_after opening past)

-- an edit of a store whose nodes are settled leaves one whose nodes are known
abbrev pub EditIsKnown : Type 0
EditIsKnown =
    (jobs : Jobs) (programs : ℕ → Program) (fixed : Name → Bool) (old new : Store)
    → IsValid jobs → IsDeclared jobs fixed → HasSources jobs old → IsEdit jobs fixed old new
    → AllSettled jobs programs old → AllKnown jobs programs new

-- two stores with the same sources whose nodes are settled have the same bytes at every name
abbrev pub SettledOnce : Type 0
SettledOnce =
    (jobs : Jobs) (programs : ℕ → Program) (fixed : Name → Bool) (a b : Store)
    → IsValid jobs → IsDeclared jobs fixed → SameSources jobs a b
    → AllSettled jobs programs a → AllSettled jobs programs b → (x : Name) → bytes_of (a x) ≡ bytes_of (b x)
