-- Traces that hold: what they say of every run.
use Rattle.std.specs.Prelude.{ℕ, ◌≡◌, ◌≢◌, ◌==◌, ◌&&◌, ◌||◌, ◌++◌, Bool, true, List, ◌∷◌, map, Contains, reverse, Option, is_some, unwrap_or}
use Rattle.std.specs.List.{list_any}
use Rattle.std.specs.Map.{lookup}
use Rattle.mk_path.specs.declared.path.Path.{Path}
use Rattle.mk_path.specs.Paths.{is_over}
use Rattle.mk_path.specs.Texts.{text_of}
use Rattle.mk_jobs.specs.Jobs.{Jobs, is_listed, is_live, reads_of, writes_of}
use Rattle.mk_sched.specs.Stores.{Store, AgreesWith}
use Rattle.mk_sched.specs.Events.{Event, Running, phase}
use Rattle.mk_sched.specs.Events.Act.{Skip as skip, Start as start, Finish as finish}
use Rattle.mk_sched.specs.Runs.{IsRun, May}
use Rattle.mk_sched.specs.Controls.{controls}
use Rattle.mk_sched.specs.Sure.{HasTimes}
use Rattle.mk_proof.specs.Shapes.{Trace}
use Rattle.mk_proof.specs.declared.step.Step.{Step}
use Rattle.mk_proof.specs.declared.step.Step.TheVariants.{Skip, Start, Finish}

-- one of these paths is over p
abbrev pub some_over : List ℕ → List Path → Path → Bool
some_over root paths p = list_any (λ q. is_over root q p) paths

-- a node writes what p covers: it is live, and a path that it writes is over p
abbrev pub writes_over : Jobs → ℕ → Path → Bool
writes_over jobs n p = is_live jobs n && some_over jobs.root (writes_of jobs n) p

-- a node touches what p covers: it is live, and a path that it reads or writes is over p
abbrev pub touches_over : Jobs → ℕ → Path → Bool
touches_over jobs n p = is_live jobs n && (some_over jobs.root (reads_of jobs n) p || some_over jobs.root (writes_of jobs n) p)

-- two nodes clash on what p covers: both touch it, and at least one writes it
abbrev pub clash_over : Jobs → ℕ → ℕ → Path → Bool
clash_over jobs a b p = touches_over jobs a p && touches_over jobs b p && (writes_over jobs a p || writes_over jobs b p)

-- the paths of two nodes
abbrev pub paths_of : Jobs → ℕ → ℕ → List Path
paths_of jobs a b = (reads_of jobs a ++ writes_of jobs a) ++ (reads_of jobs b ++ writes_of jobs b)

-- two nodes clash on the path that a trace spells: they are different, it is a path of one of them, and they clash on what it
-- covers. This asks more than a clash on some path: the path has to stand in the footprint of one of the two, so that a trace
-- names what a footprint says, and no folder above both
pub record ClashesOn (jobs : Jobs) (a b : ℕ) (text : List ℕ) : Type 0 where
  pub different : a ≢ b
  pub path : Path
  pub named : Contains (paths_of jobs a b) path
  pub spells : text_of path ≡ text
  pub clash : clash_over jobs a b path ≡ true

-- a step as an event
abbrev pub event_of : Step → Event
event_of (Skip n) = record { node = n; act = skip }
event_of (Start n) = record { node = n; act = start }
event_of (Finish n) = record { node = n; act = finish }

-- steps in the order of time, as a past with the newest first
abbrev pub past_of : List Step → List Event
past_of steps = reverse (map event_of steps)

-- the time beside a node, if there is one
abbrev pub time_of : List (ℕ × ℕ) → ℕ → Option ℕ
time_of times n = lookup (λ k. k == n) times

-- that time, or zero
abbrev pub time_at : List (ℕ × ℕ) → ℕ → ℕ
time_at times n = unwrap_or (time_of times n) 0

-- the listed nodes have a time, and nothing else has
abbrev pub AreOfListed : Jobs → List (ℕ × ℕ) → Type 0
AreOfListed jobs times = (n : ℕ) → is_some (time_of times n) ≡ is_listed jobs n

-- a store fits: just the listed nodes are there, and their files are as old as the times say
pub record Fits (jobs : Jobs) (times : List (ℕ × ℕ)) (opening : Store) : Type 0 where
  pub agrees : AgreesWith jobs opening
  pub has_times : HasTimes jobs (time_at times) opening

-- a run of at most two nodes at a time whose skips, starts and finishes are these steps; between them it may look, put and
-- erase at will
pub record FollowsSteps (jobs : Jobs) (tie : Bool) (opening : Store) (past : List Event) (steps : List Step) : Type 0 where
  pub run : IsRun jobs tie 2 opening past
  pub steps_alone : controls past ≡ past_of steps

-- a trace holds: its nodes clash on its path; its times are those of the listed nodes; and whatever the store that fits, and
-- with either `tie`, a run that has followed some of the steps may take the next one, and one that has followed all of them
-- has both nodes running
pub record TraceHolds (jobs : Jobs) (trace : Trace) : Type 0 where
  pub clash : ClashesOn jobs trace.first trace.second trace.path
  pub listed : AreOfListed jobs trace.times
  pub allowed :
      (tie : Bool) (opening : Store) (past : List Event) (done : List Step) (next : Step) (rest : List Step)
      → Fits jobs trace.times opening → trace.steps ≡ done ++ next ∷ rest → FollowsSteps jobs tie opening past done
      → May jobs tie 2 opening past (event_of next).node (event_of next).act
  pub both_run :
      (tie : Bool) (opening : Store) (past : List Event)
      → Fits jobs trace.times opening → FollowsSteps jobs tie opening past trace.steps
      → (phase past trace.first ≡ Running) × (phase past trace.second ≡ Running)
