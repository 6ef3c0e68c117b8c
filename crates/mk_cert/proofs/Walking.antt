-- A walk along the steps of a trace.
use Rattle.std.proofs.Common.{ℕ, zero, suc, ◌≡◌, ◌<◌, ◌≤◌, ◌+◌, ◌^◌, ◌==◌, ◌&&◌, nat_lt, Bool, true, false, List, [], ◌∷◌, length, get_or, take, drop, refl, sym, ap, ◌∙◌, subst, arith, ltb-true}
use Rattle.std.proofs.Math.Path.{fun_ext}
use Rattle.std.proofs.lemmas.Bool.{and_parts, le-ltb}
use Rattle.std.proofs.lemmas.List.{take_more, drop_more}
use Rattle.mk_proof.specs.Shapes.{node_of}
use Rattle.mk_proof.specs.declared.step.Step.{Step}
use Rattle.mk_proof.specs.declared.step.Step.TheVariants.{Skip, Start, Finish}
use Rattle.mk_jobs.specs.Jobs.{Jobs, node_count}
use Rattle.mk_sched.specs.Counter.{Moves}
use Rattle.mk_sched.specs.Events.{Event, Phase, phase, is_running, count_to, running_below}
use Rattle.mk_sched.proofs.Basics.{split}
use Rattle.mk_cert.specs.Standing.{moved, phases_of}
use Rattle.mk_cert.specs.Sure.{all_pass, is_ready, passes}
use Rattle.mk_cert.specs.Traces.{event_of, past_of}
use Rattle.mk_cert.specs.declared.stage.Stage.{Stage}
use Rattle.mk_cert.proofs.Clashing.{moves, ready_parts}
use Rattle.mk_cert.proofs.Followed.{one_more}

-- where the walk stands after a past, with the rest of the steps before it
pub record IsAt (jobs : Jobs) (times : ℕ → ℕ) (first second : ℕ) (past : List Event) (steps rest : List Step) (stages : List Stage) (running : ℕ) : Type 0 where
  pub long : length stages ≡ node_count jobs
  pub reports : phases_of stages ≡ phase past
  pub counted : running ≡ running_below past (node_count jobs)
  pub few : node_count jobs < 2 ^ 32
  pub left : all_pass jobs times first second [] steps ≡ all_pass jobs times first second past rest

count_none : (n : ℕ) → count_to (λ k. false) n ≡ 0
count_none zero = refl
count_none (suc n) = count_none n

count_to-le : (test : ℕ → Bool) (n : ℕ) → count_to test n ≤ n
count_to-le test zero = omega arith
count_to-le test (suc n) = let rest = count_to-le test n in split (test n) (λ is. rw is (omega (arith, rest))) (λ not. rw not (omega (arith, rest)))

-- before any step
pub begun : (jobs : Jobs) (times : ℕ → ℕ) (first second : ℕ) (steps : List Step) (stages : List Stage) (running : ℕ)
    → length stages ≡ node_count jobs → phases_of stages ≡ phase [] → running ≡ 0 → node_count jobs < 2 ^ 32 → IsAt jobs times first second [] steps steps stages running
begun jobs times first second steps stages running long waits none few = record {
  long = long;
  reports = waits;
  counted = none ∙ sym (count_none (node_count jobs));
  few = few;
  left = refl;
}

-- a step more of the past
pub past_more : (steps : List Step) (k : ℕ) (step : Step) → k < length steps → step ≡ get_or steps k step → past_of (take (k + 1) steps) ≡ event_of step ∷ past_of (take k steps)
past_more steps k step inside is =
    ap past_of (take_more steps k step inside)
    ∙ one_more (take k steps) (get_or steps k step)
    ∙ ap (λ (s : Step). event_of s ∷ past_of (take k steps)) (sym is)

-- and a step less of the rest
pub rest_less : (steps : List Step) (k : ℕ) (step : Step) → k < length steps → step ≡ get_or steps k step → drop k steps ≡ step ∷ drop (k + 1) steps
rest_less steps k step inside is = drop_more steps k step inside ∙ ap (λ (s : Step). s ∷ drop (k + 1) steps) (sym is)

-- the phases move as the past does
moved_is : (past : List Event) (step : Step) → moved (phase past) step ≡ phase (event_of step ∷ past)
moved_is past (Skip n) = fun_ext (λ k. split (n == k) (λ own. rw own refl) (λ other. rw other refl))
moved_is past (Start n) = fun_ext (λ k. split (n == k) (λ own. rw own refl) (λ other. rw other refl))
moved_is past (Finish n) = fun_ext (λ k. split (n == k) (λ own. rw own refl) (λ other. rw other refl))

-- a step moves a number in one way
moved_once : (step : Step) (old new other : ℕ) → Moves (event_of step).act old new → Moves (event_of step).act old other → new ≡ other
moved_once (Skip n) old new other one two = one ∙ sym two
moved_once (Start n) old new other one two = one ∙ sym two
moved_once (Finish n) old new other one two = omega (arith, one, two)

-- a step that passes is of a node
pub node_inside : (jobs : Jobs) (times : ℕ → ℕ) (phases : ℕ → Phase) (step : Step) → passes jobs times phases step ≡ true → node_of step < node_count jobs
node_inside jobs times phases (Skip n) pass = ltb-true _ _ (ready_parts jobs phases n (and_parts (is_ready jobs phases n) _ pass).0).0
node_inside jobs times phases (Start n) pass =
    let three = and_parts _ _ pass in
    let two = and_parts _ _ three.0 in
    ltb-true _ _ (ready_parts jobs phases n (and_parts (is_ready jobs phases n) _ two.0).0).0
node_inside jobs times phases (Finish n) pass = ltb-true _ _ (and_parts (nat_lt n (node_count jobs)) (is_running (phases n)) pass).0

-- and one of no node does not
pub past_fails : (jobs : Jobs) (times : ℕ → ℕ) (phases : ℕ → Phase) (step : Step) → node_count jobs ≤ node_of step → passes jobs times phases step ≡ false
past_fails jobs times phases (Skip n) past = rw (le-ltb n (node_count jobs) past) refl
past_fails jobs times phases (Start n) past = rw (le-ltb n (node_count jobs) past) refl
past_fails jobs times phases (Finish n) past = rw (le-ltb n (node_count jobs) past) refl

module _ (jobs : Jobs) (times : ℕ → ℕ) (first second : ℕ) (past : List Event) (steps rest : List Step) (stages : List Stage) (running : ℕ)
    (at : IsAt jobs times first second past steps rest stages running) where
  -- the nodes that run, by their stages
  pub by_stages : running ≡ count_to (λ k. is_running (phases_of stages k)) (node_count jobs)
  by_stages = at.counted ∙ ap (λ (phases : ℕ → Phase). count_to (λ k. is_running (phases k)) (node_count jobs)) (sym at.reports)

  -- a test of a step by the stages is one by the past
  pub by_past : (b : Bool) (step : Step) → b ≡ passes jobs times (phases_of stages) step → b ≡ passes jobs times (phase past) step
  by_past b step is = is ∙ ap (λ (phases : ℕ → Phase). passes jobs times phases step) at.reports

  module _ (step : Step) (b : Bool) (is : b ≡ passes jobs times (phases_of stages) step) (pass : b ≡ true) where
    here : passes jobs times (phase past) step ≡ true
    here = sym (by_past b step is) ∙ pass

    pub inside : node_of step < length stages
    inside = let below = node_inside jobs times (phase past) step here in omega (arith, at.long, below)

    pub moving : Moves (event_of step).act running (running_below (event_of step ∷ past) (node_count jobs))
    moving = subst (λ (n : ℕ). Moves (event_of step).act n (running_below (event_of step ∷ past) (node_count jobs))) (sym at.counted) (moves jobs times past step here)

    pub room : running_below (event_of step ∷ past) (node_count jobs) < 2 ^ 32
    room = omega (arith, at.few, count_to-le (λ k. is_running (phase (event_of step ∷ past) k)) (node_count jobs))

    -- after the step
    pub next : (later : List Step) (set : List Stage) (now : ℕ) → rest ≡ step ∷ later → phases_of set ≡ moved (phases_of stages) step → length set ≡ length stages
        → Moves (event_of step).act running now → IsAt jobs times first second (event_of step ∷ past) steps later set now
    next later set now cut made long goes = record {
      long = long ∙ at.long;
      reports = made ∙ ap (λ (phases : ℕ → Phase). moved phases step) at.reports ∙ moved_is past step;
      counted = moved_once step running now _ goes moving;
      few = at.few;
      left = at.left ∙ ap (all_pass jobs times first second past) cut
          ∙ ap (λ (t : Bool). t && all_pass jobs times first second (event_of step ∷ past) later) here;
    }

  -- where a step fails
  pub stops : (step : Step) (b : Bool) (later : List Step) → b ≡ passes jobs times (phases_of stages) step → b ≡ false → rest ≡ step ∷ later
      → false ≡ all_pass jobs times first second [] steps
  stops step b later is fail cut = sym (
      at.left ∙ ap (all_pass jobs times first second past) cut
      ∙ ap (λ (t : Bool). t && all_pass jobs times first second (event_of step ∷ past) later) (sym (by_past b step is) ∙ fail))

  -- where no step is left
  pub ends : rest ≡ [] → is_running (phases_of stages first) && is_running (phases_of stages second) ≡ all_pass jobs times first second [] steps
  ends none = sym (
      at.left ∙ ap (all_pass jobs times first second past) none
      ∙ ap (λ (phases : ℕ → Phase). is_running (phases first) && is_running (phases second)) (sym at.reports))
