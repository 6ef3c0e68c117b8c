-- The steps of a replay.
use Rattle.std.proofs.Common.{ℕ, zero, suc, ◌≡◌, ◌<◌, ◌≤◌, ◌+◌, ◌^◌, Bool, true, false, List, [], ◌∷◌, ◌++◌, Option, Some, None, refl, sym, ap, ◌∙◌, subst, arith, length, IsTrue, ◌↔◌, get_or, take, drop, map, reverse}
use Rattle.std.proofs.lemmas.List.{take_more, map-append, reverse-append, take-append-drop, drop_more}
use Rattle.mk_jobs.specs.Jobs.{Jobs, node_count}
use Rattle.mk_sched.specs.Counter.{Moves}
use Rattle.mk_sched.specs.Events.{Act, Skip, Start, Look, Put, Erase, Finish, Event, phase, is_running, count_to, running_below}
use Rattle.mk_sched.specs.Refusals.{Finds, Holds, asked}
use Rattle.mk_sched.specs.Replayed.{IsLeft}
use Rattle.mk_sched.specs.Runs.{IsRun, IsComplete, May}
use Rattle.mk_sched.specs.Standing.{state_of, CanMove}
use Rattle.mk_sched.specs.Steps.{step_of, past_of}
use Rattle.mk_sched.specs.Stored.{StoredFiles}
use Rattle.mk_sched.specs.Stores.{Store}
use Rattle.mk_sched.specs.Table.{State, IsAllowed, changed, reported_by}
use Rattle.mk_sched.specs.declared.event.Event.{Event as LogEvent}
use Rattle.mk_sched.specs.declared.stage.Stage.{Stage}
use Rattle.mk_sched.proofs.ByTable.{state_reported}
use Rattle.mk_sched.proofs.Moving.{counter_moves}
use Rattle.mk_sched.specs.declared.refusal.Refusal.{Refusal}
use Rattle.mk_sched.proofs.Basics.{split}
use Rattle.mk_sched.proofs.Refusing.{allowed_unless_refused, allowed, one_answer, node_asked}

-- where a replay has come to
pub record IsAt (jobs : Jobs) (tie : Bool) (limit : ℕ) (opening : Store) (past : List Event) (files : StoredFiles) (stages : List Stage) (running : ℕ) : Type 0 where
  pub run : IsRun jobs tie limit opening past
  pub state : state_of files stages ≡ reported_by opening past
  pub long : length stages ≡ node_count jobs
  pub counted : running ≡ running_below past (node_count jobs)
  pub few : node_count jobs < 2 ^ 32

count_none : (n : ℕ) → count_to (λ k. false) n ≡ 0
count_none zero = refl
count_none (suc n) = count_none n

count_to-le : (test : ℕ → Bool) (n : ℕ) → count_to test n ≤ n
count_to-le test zero = omega arith
count_to-le test (suc n) = let rest = count_to-le test n in split (test n) (λ yes. rw yes (omega (arith, rest))) (λ no. rw no (omega (arith, rest)))

-- one more event
pub past_more : (events : List LogEvent) (k : ℕ) (e : LogEvent) → k < length events → e ≡ get_or events k e → past_of (take (k + 1) events) ≡ step_of e ∷ past_of (take k events)
past_more events k e inside is =
    ap past_of (take_more events k e inside)
    ∙ ap reverse (map-append step_of (take k events) (get_or events k e ∷ []))
    ∙ reverse-append (map step_of (take k events)) (step_of (get_or events k e) ∷ [])
    ∙ ap (λ (x : LogEvent). step_of x ∷ past_of (take k events)) (sym is)

-- the counters of a state
pub counts : (jobs : Jobs) (tie : Bool) (limit : ℕ) (opening : Store) (past : List Event) (files : StoredFiles) (stages : List Stage) (running : ℕ)
    → IsAt jobs tie limit opening past files stages running → running ≡ count_to (state_of files stages).running (node_count jobs)
counts jobs tie limit opening past files stages running at = at.counted ∙ ap (λ (s : State). count_to s.running (node_count jobs)) (sym at.state)

moves_once : (a : Act) (old new other : ℕ) → Moves a old new → Moves a old other → new ≡ other
moves_once Skip old new other m n = m ∙ sym n
moves_once Start old new other m n = m ∙ sym n
moves_once (Look path seen) old new other m n = m ∙ sym n
moves_once (Put path bytes time) old new other m n = m ∙ sym n
moves_once (Erase path) old new other m n = m ∙ sym n
moves_once Finish old new other m n = omega (arith, m, n)

can_move : (jobs : Jobs) (tie : Bool) (limit : ℕ) (s : State) (n : ℕ) (a : Act) → IsAllowed jobs tie limit s n a → CanMove s n a
can_move jobs tie limit s n Skip h = h.0.not_running
can_move jobs tie limit s n Start h = h.0.not_passed
can_move jobs tie limit s n (Look path seen) h = tt
can_move jobs tie limit s n (Put path bytes time) h = tt
can_move jobs tie limit s n (Erase path) h = tt
can_move jobs tie limit s n Finish h = tt

module _ (jobs : Jobs) (tie : Bool) (limit : ℕ) (opening : Store) (past : List Event) (files : StoredFiles) (stages : List Stage) (running : ℕ) (at : IsAt jobs tie limit opening past files stages running) (e : Event) where
  -- the refusals that a state finds are those of the past
  pub finds_reported : (found : Option Refusal) → Finds (Holds jobs tie limit (state_of files stages) e.node e.act) (asked e.act) found → Finds (Holds jobs tie limit (reported_by opening past) e.node e.act) (asked e.act) found
  finds_reported found finds = subst (λ (s : State). Finds (Holds jobs tie limit s e.node e.act) (asked e.act) found) at.state finds

  -- an event that is refused is not allowed
  pub not_allowed : (r : Refusal) → Finds (Holds jobs tie limit (state_of files stages) e.node e.act) (asked e.act) (Some r) → May jobs tie limit opening past e.node e.act → ⊥
  not_allowed r some allows = one_answer (Holds jobs tie limit (reported_by opening past) e.node e.act) (asked e.act) r ((allowed_unless_refused jobs tie limit opening past e.node e.act at.run).0 allows) (finds_reported (Some r) some)

  module _ (none : Finds (Holds jobs tie limit (state_of files stages) e.node e.act) (asked e.act) None) where
    pub may : May jobs tie limit opening past e.node e.act
    may = (allowed_unless_refused jobs tie limit opening past e.node e.act at.run).1 (finds_reported None none)

    pub node_in : e.node < length stages
    node_in = omega (arith, at.long, node_asked jobs tie limit (state_of files stages) e.node e.act none)

    pub movable : CanMove (state_of files stages) e.node e.act
    movable = can_move jobs tie limit (state_of files stages) e.node e.act (allowed jobs tie limit (state_of files stages) e.node e.act none)

    pub moves : Moves e.act running (running_below (e ∷ past) (node_count jobs))
    moves = subst (λ (n : ℕ). Moves e.act n (running_below (e ∷ past) (node_count jobs))) (sym at.counted) (counter_moves jobs tie limit opening e past (at.run, may))

    pub room : running_below (e ∷ past) (node_count jobs) < 2 ^ 32
    room = omega (arith, at.few, count_to-le (λ k. is_running (phase (e ∷ past) k)) (node_count jobs))

    -- after the event
    pub next : (later : StoredFiles) (set : List Stage) (now : ℕ) → state_of later set ≡ changed (state_of files stages) e.node e.act → length set ≡ length stages → Moves e.act running now
        → IsAt jobs tie limit opening (e ∷ past) later set now
    next later set now made long moved = record {
      run = (at.run, may);
      state = made ∙ ap (λ (s : State). changed s e.node e.act) (at.state ∙ sym (state_reported jobs tie limit opening past at.run)) ∙ state_reported jobs tie limit opening (e ∷ past) (at.run, may);
      long = long ∙ at.long;
      counted = moves_once e.act running now _ moved moves;
      few = at.few;
    }

-- before any event
pub begun_at : (jobs : Jobs) (tie : Bool) (limit : ℕ) (opening : Store) (files : StoredFiles) (stages : List Stage) → state_of files stages ≡ reported_by opening [] → length stages ≡ node_count jobs → node_count jobs < 2 ^ 32
    → IsAt jobs tie limit opening [] files stages 0
begun_at jobs tie limit opening files stages state long few = record { run = tt; state = state; long = long; counted = sym (count_none (node_count jobs)); few = few }

-- what a replay leaves
pub leaves : (jobs : Jobs) (tie : Bool) (limit : ℕ) (opening : Store) (events : List LogEvent) (files : StoredFiles) (stages : List Stage) (running : ℕ)
    → IsAt jobs tie limit opening (past_of events) files stages running → IsLeft opening events files
leaves jobs tie limit opening events files stages running at x = ap (λ (s : State). s.store x) at.state

-- and whether all have passed
pub whole : (jobs : Jobs) (tie : Bool) (limit : ℕ) (opening : Store) (past : List Event) (files : StoredFiles) (stages : List Stage) (running : ℕ) (complete : Bool)
    → IsAt jobs tie limit opening past files stages running
    → IsTrue complete ↔ ((n : ℕ) → n < length stages → (state_of files stages).passed n ≡ true)
    → IsTrue complete ↔ IsComplete jobs past
whole jobs tie limit opening past files stages running complete at reports = (
  (λ yes n inside. sym (ap (λ (s : State). s.passed n) at.state) ∙ reports.0 yes n (omega (arith, inside, at.long))),
  (λ all. reports.1 (λ n inside. ap (λ (s : State). s.passed n) at.state ∙ all n (omega (arith, inside, at.long)))),
)

-- the events before a place, the one there, and the rest
pub cut : (events : List LogEvent) (k : ℕ) (e : LogEvent) → k < length events → e ≡ get_or events k e → events ≡ take k events ++ e ∷ drop (k + 1) events
cut events k e inside is = sym (take-append-drop k events) ∙ ap (λ (rest : List LogEvent). take k events ++ rest) (drop_more events k e inside ∙ ap (λ (x : LogEvent). x ∷ drop (k + 1) events) (sym is))
