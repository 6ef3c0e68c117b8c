-- Skips, starts and finishes alone say who has passed and who runs.
use Rattle.std.specs.Prelude.{ℕ, ◌≡◌, Bool, true, false, List, filter}
use Rattle.mk_sched.specs.Events.{Act, Skip, Start, Look, Put, Erase, Finish, Event, phase}

-- a skip, a start or a finish
abbrev pub is_control : Act → Bool
is_control Skip = true
is_control Start = true
is_control (Look path seen) = false
is_control (Put path bytes time) = false
is_control (Erase path) = false
is_control Finish = true

-- the skips, starts and finishes of a past
abbrev pub controls : List Event → List Event
controls past = filter (λ e. is_control e.act) past

-- by these alone each node is in the phase that it is in by all events
abbrev pub ControlsReport : Type 0
ControlsReport = (past : List Event) (n : ℕ) → phase (controls past) n ≡ phase past n
