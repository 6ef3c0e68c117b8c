-- Refusals: which are asked of an act, in which order, and when each holds.
use Rattle.std.specs.Prelude.{ℕ, ◌≡◌, ◌<◌, ◌≤◌, ◌⊎◌, ◌||◌, not, Bool, true, false, List, [], ◌∷◌, Option, Some, None}
use Rattle.std.specs.List.{list_any}
use Rattle.mk_name.specs.Names.{Name}
use Rattle.mk_jobs.specs.Jobs.{Jobs, node_count, prerequisites_of, has_recipe, may_read, may_write}
use Rattle.mk_sched.specs.Stores.{Store, File, bytes_of, is_stale, must_run}
use Rattle.mk_sched.specs.Events.{Act, Skip, Start, Look, Put, Erase, Finish, count_to}
use Rattle.mk_sched.specs.Table.{State}
use Rattle.mk_sched.specs.declared.refusal.Refusal.{Refusal}
use Rattle.mk_sched.specs.declared.refusal.Refusal.TheVariants.{NotReady, NotStale, Stale, NoRecipe, TwicePassed, NotRunning, OutsideFootprint, WrongBytes, NotNewer, TooManyJobs, StoreNotListing, NoNode}

-- the refusals of an act, in the order in which they are asked
abbrev pub asked : Act → List Refusal
asked Skip = NoNode ∷ TwicePassed ∷ NotReady ∷ Stale ∷ []
asked Start = NoNode ∷ TwicePassed ∷ NotReady ∷ NoRecipe ∷ NotStale ∷ TooManyJobs ∷ []
asked (Look path seen) = NoNode ∷ NotRunning ∷ OutsideFootprint ∷ WrongBytes ∷ []
asked (Put path bytes time) = NoNode ∷ NotRunning ∷ OutsideFootprint ∷ NotNewer ∷ []
asked (Erase path) = NoNode ∷ NotRunning ∷ OutsideFootprint ∷ []
asked Finish = NoNode ∷ NotRunning ∷ []

-- the time is after that of each file
abbrev pub IsNewest : Store → ℕ → Type 0
IsNewest store time = (x : Name) (file : File) → store x ≡ Some file → file.time < time

-- the act is within the footprint of n
abbrev pub is_within : Jobs → ℕ → Act → Bool
is_within jobs n Skip = true
is_within jobs n Start = true
is_within jobs n (Look path seen) = may_read jobs n path
is_within jobs n (Put path bytes time) = may_write jobs n path
is_within jobs n (Erase path) = may_write jobs n path
is_within jobs n Finish = true

-- a look finds what stands there
abbrev pub IsTrueLook : Store → Act → Type 0
IsTrueLook store Skip = Unit {0}
IsTrueLook store Start = Unit {0}
IsTrueLook store (Look path seen) = seen ≡ bytes_of (store path)
IsTrueLook store (Put path bytes time) = Unit {0}
IsTrueLook store (Erase path) = Unit {0}
IsTrueLook store Finish = Unit {0}

-- a put is newer than each file
abbrev pub IsNewPut : Store → Act → Type 0
IsNewPut store Skip = Unit {0}
IsNewPut store Start = Unit {0}
IsNewPut store (Look path seen) = Unit {0}
IsNewPut store (Put path bytes time) = IsNewest store time
IsNewPut store (Erase path) = Unit {0}
IsNewPut store Finish = Unit {0}

-- when a refusal holds of an act of n in a state; that of a store holds of no act
abbrev pub Holds : Jobs → Bool → ℕ → State → ℕ → Act → Refusal → Type 0
Holds jobs tie limit s n a NotReady = list_any (λ p. not (s.passed p)) (prerequisites_of jobs n) ≡ true
Holds jobs tie limit s n a NotStale = is_stale jobs tie s.store n ≡ false
Holds jobs tie limit s n a Stale = must_run jobs tie s.store n ≡ true
Holds jobs tie limit s n a NoRecipe = has_recipe jobs n ≡ false
Holds jobs tie limit s n a TwicePassed = s.passed n || s.running n ≡ true
Holds jobs tie limit s n a NotRunning = s.running n ≡ false
Holds jobs tie limit s n a OutsideFootprint = is_within jobs n a ≡ false
Holds jobs tie limit s n a WrongBytes = IsTrueLook s.store a → ⊥
Holds jobs tie limit s n a NotNewer = IsNewPut s.store a → ⊥
Holds jobs tie limit s n a TooManyJobs = limit ≤ count_to s.running (node_count jobs)
Holds jobs tie limit s n a StoreNotListing = ⊥
Holds jobs tie limit s n a NoNode = node_count jobs ≤ n

-- the first of some refusals that holds, or none where none does
abbrev pub Finds : (Refusal → Type 0) → List Refusal → Option Refusal → Type 0
Finds holds [] found = found ≡ None
Finds holds (r ∷ rs) found = (holds r × (found ≡ Some r)) ⊎ ((holds r → ⊥) × Finds holds rs found)
