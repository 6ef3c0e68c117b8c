-- Allowed events as the format of logs has them: a state, which is a store and two sets of nodes, and a table of what
-- each event asks of it and changes.
use Rattle.std.specs.Prelude.{ℕ, ◌≡◌, ◌<◌, ◌⊎◌, ◌==◌, ◌↔◌, Bool, true, false, List, [], ◌∷◌, reverse, Some, None, if◌then◌else◌}
use Rattle.mk_name.specs.Names.{Name, same_name}
use Rattle.mk_jobs.specs.Jobs.{Jobs, IsPrerequisite, node_count, has_recipe, may_read, may_write}
use Rattle.mk_sched.specs.Stores.{Store, File, bytes_of, is_stale}
use Rattle.mk_sched.specs.Events.{Act, Skip, Start, Look, Put, Erase, Finish, Event, phase, is_passed, is_running, count_to, store_after}
use Rattle.mk_sched.specs.Runs.{IsRun, May}

-- a state: a store, the nodes that have passed, and the nodes that run
pub record State : Type 0 where
  pub store : Store
  pub passed : ℕ → Bool
  pub running : ℕ → Bool

-- at the start nothing has passed and nothing runs
abbrev pub start_from : Store → State
start_from opening = record { store = opening; passed = λ n. false; running = λ n. false }

-- the set, and n with it
abbrev pub with_node : (ℕ → Bool) → ℕ → ℕ → Bool
with_node set n k = if n == k then true else set k

-- the set without n
abbrev pub without_node : (ℕ → Bool) → ℕ → ℕ → Bool
without_node set n k = if n == k then false else set k

-- what an act of n changes
abbrev pub changed : State → ℕ → Act → State
changed s n Skip = record { store = s.store; passed = with_node s.passed n; running = s.running }
changed s n Start = record { store = s.store; passed = s.passed; running = with_node s.running n }
changed s n (Look path seen) = s
changed s n (Put path bytes time) = record {
  store = λ x. if same_name path x then Some (record { bytes = bytes; time = time }) else s.store x;
  passed = s.passed;
  running = s.running;
}
changed s n (Erase path) = record {
  store = λ x. if same_name path x then None else s.store x;
  passed = s.passed;
  running = s.running;
}
changed s n Finish = record { store = s.store; passed = with_node s.passed n; running = without_node s.running n }

-- n is a node that has neither passed nor runs, and all its prerequisites have passed
pub record CanBegin (jobs : Jobs) (s : State) (n : ℕ) : Type 0 where
  pub in_jobs : n < node_count jobs
  pub not_passed : s.passed n ≡ false
  pub not_running : s.running n ≡ false
  pub prerequisites : (p : ℕ) → IsPrerequisite jobs p n → s.passed p ≡ true

-- what each act of n asks of the state
abbrev pub IsAllowed : Jobs → Bool → ℕ → State → ℕ → Act → Type 0
IsAllowed jobs tie limit s n Skip =
    CanBegin jobs s n × ((has_recipe jobs n ≡ false) ⊎ (is_stale jobs tie s.store n ≡ false))
IsAllowed jobs tie limit s n Start =
    CanBegin jobs s n × (has_recipe jobs n ≡ true) × (is_stale jobs tie s.store n ≡ true)
    × (count_to s.running (node_count jobs) < limit)
IsAllowed jobs tie limit s n (Look path seen) =
    (s.running n ≡ true) × (may_read jobs n path ≡ true) × (seen ≡ bytes_of (s.store path))
IsAllowed jobs tie limit s n (Put path bytes time) =
    (s.running n ≡ true) × (may_write jobs n path ≡ true) × ((x : Name) (file : File) → s.store x ≡ Some file → file.time < time)
IsAllowed jobs tie limit s n (Erase path) = (s.running n ≡ true) × (may_write jobs n path ≡ true)
IsAllowed jobs tie limit s n Finish = s.running n ≡ true

-- each event, the oldest first, is allowed in the state that those before it left
abbrev pub AllowedInTurn : Jobs → Bool → ℕ → State → List Event → Type 0
AllowedInTurn jobs tie limit s [] = Unit {0}
AllowedInTurn jobs tie limit s (e ∷ events) =
    IsAllowed jobs tie limit s e.node e.act × AllowedInTurn jobs tie limit (changed s e.node e.act) events

-- the state that a past leaves, event by event
abbrev pub state_after : Store → List Event → State
state_after opening [] = start_from opening
state_after opening (e ∷ past) = changed (state_after opening past) e.node e.act

-- the state that a past leads to: the store that it leaves, and who has passed or runs by its own acts
abbrev pub reported_by : Store → List Event → State
reported_by opening past =
    record { store = store_after opening past; passed = λ n. is_passed (phase past n); running = λ n. is_running (phase past n) }

-- a run leaves the state that it leads to
abbrev pub StateIsReported : Type 0
StateIsReported =
    (jobs : Jobs) (tie : Bool) (limit : ℕ) (opening : Store) (past : List Event)
    → IsRun jobs tie limit opening past → state_after opening past ≡ reported_by opening past

-- after a run the acts that are allowed are those that the table allows
abbrev pub MayIsTable : Type 0
MayIsTable =
    (jobs : Jobs) (tie : Bool) (limit : ℕ) (opening : Store) (past : List Event) (n : ℕ) (a : Act)
    → IsRun jobs tie limit opening past
    → May jobs tie limit opening past n a ↔ IsAllowed jobs tie limit (state_after opening past) n a

-- a list of events is a run exactly where the table allows each of them in its turn
abbrev pub RunsByTable : Type 0
RunsByTable =
    (jobs : Jobs) (tie : Bool) (limit : ℕ) (opening : Store) (events : List Event)
    → IsRun jobs tie limit opening (reverse events) ↔ AllowedInTurn jobs tie limit (start_from opening) events
