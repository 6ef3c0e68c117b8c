-- Recipes as programs: what a recipe does next is a function of what it did and saw so far. Such recipes agree.
use Rattle.std.specs.Prelude.{ℕ, ◌≡◌, true, List, Option, Some, None, take, slice_get, reverse}
use Rattle.mk_name.specs.Names.{Name}
use Rattle.mk_sched.specs.Stores.{Bytes}
use Rattle.mk_sched.specs.Events.{Event, HistoryLine, Looked, Wrote, phase, is_started, history}
use Rattle.mk_sched.specs.Runs.{RecipesAgree}

-- what a program does next: look at a file, or leave these bytes or nothing at a name
pub data WantedStep : Type 0 where
  ToLook : (path : Name) → WantedStep
  ToWrite : (path : Name) (left : Option Bytes) → WantedStep

-- a program: by a history, the oldest entry first, what comes next, or the end
abbrev pub Program : Type 0
Program = List HistoryLine → Option WantedStep

-- the entry is what was wanted, whatever a look found; or the history ends where the program does
abbrev pub IsDoneAs : Option WantedStep → Option HistoryLine → Type 0
IsDoneAs None None = Unit {0}
IsDoneAs (Some (ToLook path)) (Some (Looked x seen)) = path ≡ x
IsDoneAs (Some (ToWrite path left)) (Some (Wrote x kept)) = (path ≡ x) × (left ≡ kept)
IsDoneAs (Some (ToLook path)) (Some (Wrote x kept)) = ⊥
IsDoneAs (Some (ToWrite path left)) (Some (Looked x seen)) = ⊥
IsDoneAs None (Some entry) = ⊥
IsDoneAs (Some request) None = ⊥

-- after each beginning of its history a node did what its program does next
abbrev pub Follows : Program → List HistoryLine → Type 0
Follows program entries = (k : ℕ) → IsDoneAs (program (take k entries)) (slice_get entries k)

-- each node that started followed its program
abbrev pub FollowsPrograms : (ℕ → Program) → List Event → Type 0
FollowsPrograms programs past = (n : ℕ) → is_started (phase past n) ≡ true → Follows (programs n) (reverse (history past n))

-- the recipes of two runs agree if they follow the same programs
abbrev pub ProgramsAgree : Type 0
ProgramsAgree =
    (programs : ℕ → Program) (a b : List Event)
    → FollowsPrograms programs a → FollowsPrograms programs b → RecipesAgree a b
