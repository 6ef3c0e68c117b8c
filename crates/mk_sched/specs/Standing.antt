-- The state that a store and the nodes' stages give.
use Rattle.std.specs.Prelude.{ℕ, ◌≡◌, Bool, true, false, List, get_or}
use Rattle.mk_sched.specs.Events.{Act, Skip, Start, Look, Put, Erase, Finish}
use Rattle.mk_sched.specs.Stored.{StoredFiles, store_of}
use Rattle.mk_sched.specs.Table.{State}
use Rattle.mk_sched.specs.declared.stage.Stage.{Stage}
use Rattle.mk_sched.specs.declared.state.State.{State as Held}
use Rattle.mk_sched.specs.declared.stage.Stage.TheVariants.{Waiting, Running, Passed}

-- it has passed
abbrev pub has_passed : Stage → Bool
has_passed Waiting = false
has_passed Running = false
has_passed Passed = true

-- it runs
abbrev pub runs : Stage → Bool
runs Waiting = false
runs Running = true
runs Passed = false

-- what stands at the names, who has passed, and who runs
abbrev pub state_of : StoredFiles → List Stage → State
state_of files stages = record {
  store = store_of files;
  passed = λ n. has_passed (get_or stages n Waiting);
  running = λ n. runs (get_or stages n Waiting);
}

-- what a state of the code says
abbrev pub held : Held → State
held state = state_of state.store state.stages.items

-- who is skipped does not run, and who starts has not passed
abbrev pub CanMove : State → ℕ → Act → Type 0
CanMove s n Skip = s.running n ≡ false
CanMove s n Start = s.passed n ≡ false
CanMove s n (Look path seen) = Unit {0}
CanMove s n (Put path bytes time) = Unit {0}
CanMove s n (Erase path) = Unit {0}
CanMove s n Finish = Unit {0}
