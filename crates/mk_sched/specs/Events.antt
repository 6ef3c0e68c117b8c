-- Events, and what a list of events leaves. A past is the list of the events so far, the newest first.
use Rattle.std.specs.Prelude.{ℕ, ◌==◌, Bool, true, false, List, [], ◌∷◌, Option, Some, None, if◌then◌else◌}
use Rattle.mk_name.specs.Names.{Name, same_name}
use Rattle.mk_sched.specs.Stores.{Bytes, File, Store}

-- one step of one node: skipped; or started, a look at a file, a file put, a file erased, finished
pub data Act : Type 0 where
  Skip : Act
  Start : Act
  Look : (path : Name) (seen : Option Bytes) → Act
  Put : (path : Name) (bytes : Bytes) (time : ℕ) → Act
  Erase : (path : Name) → Act
  Finish : Act

-- an event: which node does what
pub record Event : Type 0 where
  pub node : ℕ
  pub act : Act

-- the acts of n, the newest first
abbrev pub acts_of : ℕ → List Event → List Act
acts_of n [] = []
acts_of n (e ∷ past) = if e.node == n then e.act ∷ acts_of n past else acts_of n past

-- what has become of a node: it waits, runs, was skipped, or ran to its end
pub data Phase : Type 0 where
  Waiting : Phase
  Running : Phase
  Skipped : Phase
  Ran : Phase

-- a node waits until it is skipped or starts, and runs until it finishes
abbrev pub phase_after : List Act → Phase
phase_after [] = Waiting
phase_after (Skip ∷ acts) = Skipped
phase_after (Start ∷ acts) = Running
phase_after (Look path seen ∷ acts) = phase_after acts
phase_after (Put path bytes time ∷ acts) = phase_after acts
phase_after (Erase path ∷ acts) = phase_after acts
phase_after (Finish ∷ acts) = Ran

-- what has become of n
abbrev pub phase : List Event → ℕ → Phase
phase past n = phase_after (acts_of n past)

-- passed: skipped, or ran to its end
abbrev pub is_passed : Phase → Bool
is_passed Waiting = false
is_passed Running = false
is_passed Skipped = true
is_passed Ran = true

-- started: runs, or ran to its end
abbrev pub is_started : Phase → Bool
is_started Waiting = false
is_started Running = true
is_started Skipped = false
is_started Ran = true

-- runs at this moment
abbrev pub is_running : Phase → Bool
is_running Waiting = false
is_running Running = true
is_running Skipped = false
is_running Ran = false

-- how many numbers below n pass the test
abbrev pub count_to : (ℕ → Bool) → ℕ → ℕ
count_to test ℕ.zero = 0
count_to test (ℕ.suc n) = if test n then ℕ.suc (count_to test n) else count_to test n

-- how many of the first n nodes run
abbrev pub running_below : List Event → ℕ → ℕ
running_below past n = count_to (λ k. is_running (phase past k)) n

-- one line of a history: a look and what it found, or a name and what was left there, nothing after an erasure
pub data HistoryLine : Type 0 where
  Looked : (path : Name) (seen : Option Bytes) → HistoryLine
  Wrote : (path : Name) (left : Option Bytes) → HistoryLine

-- the looks, puts and erasures among some acts, without their times
abbrev pub entries : List Act → List HistoryLine
entries [] = []
entries (Skip ∷ acts) = entries acts
entries (Start ∷ acts) = entries acts
entries (Look path seen ∷ acts) = Looked path seen ∷ entries acts
entries (Put path bytes time ∷ acts) = Wrote path (Some bytes) ∷ entries acts
entries (Erase path ∷ acts) = Wrote path None ∷ entries acts
entries (Finish ∷ acts) = entries acts

-- n's history: its looks, puts and erasures without times, the newest first
abbrev pub history : List Event → ℕ → List HistoryLine
history past n = entries (acts_of n past)

-- what stands at x after an act, by what stood there before
abbrev pub written : Act → Name → Option File → Option File
written Skip x old = old
written Start x old = old
written (Look path seen) x old = old
written (Put path bytes time) x old = if same_name path x then Some (record { bytes = bytes; time = time }) else old
written (Erase path) x old = if same_name path x then None else old
written Finish x old = old

-- the store that a past leaves
abbrev pub store_after : Store → List Event → Store
store_after opening [] x = opening x
store_after opening (e ∷ past) x = written e.act x (store_after opening past x)
