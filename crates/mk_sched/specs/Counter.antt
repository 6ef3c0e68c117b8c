-- How the number of running nodes moves.
use Rattle.std.specs.Prelude.{ℕ, suc, ◌≡◌, Bool, List, ◌∷◌}
use Rattle.mk_jobs.specs.Jobs.{Jobs, node_count}
use Rattle.mk_sched.specs.Stores.{Store}
use Rattle.mk_sched.specs.Events.{Act, Skip, Start, Look, Put, Erase, Finish, Event, running_below}
use Rattle.mk_sched.specs.Runs.{IsRun}

-- a start adds one, a finish takes one off, and nothing else moves it
abbrev pub Moves : Act → ℕ → ℕ → Type 0
Moves Skip old new = new ≡ old
Moves Start old new = new ≡ suc old
Moves (Look path seen) old new = new ≡ old
Moves (Put path bytes time) old new = new ≡ old
Moves (Erase path) old new = new ≡ old
Moves Finish old new = suc new ≡ old

-- so moves the number of running nodes at each event of a run
abbrev pub CounterMoves : Type 0
CounterMoves =
    (jobs : Jobs) (tie : Bool) (limit : ℕ) (opening : Store) (e : Event) (past : List Event)
    → IsRun jobs tie limit opening (e ∷ past)
    → Moves e.act (running_below past (node_count jobs)) (running_below (e ∷ past) (node_count jobs))
