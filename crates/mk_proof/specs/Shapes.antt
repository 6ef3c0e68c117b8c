-- The shapes that certificates and traces keep.
use Rattle.std.specs.Prelude.{ℕ, ◌≤◌, ◌<◌, ◌+◌, ◌-◌, List, length, map, get_or}
use Rattle.std.specs.List.{All}
use Rattle.std.specs.List.Sorted.{IsStrictlySortedBy}
use Rattle.std.specs.Map.{keys_of}
use Rattle.std.specs.Ordering.{nat_cmp, then_cmp}
use Rattle.std.specs.declared.cmp.Ordering.{Ordering}
use Rattle.mk_proof.specs.declared.step.Step.{Step}
use Rattle.mk_proof.specs.declared.step.Step.TheVariants.{Skip, Start, Finish}

-- the greatest number of a node, the greatest time, and the most chains of a certificate
abbrev pub greatest_node : ℕ
greatest_node = 19999

abbrev pub greatest_time : ℕ
greatest_time = greatest_node + 1

abbrev pub most_chains : ℕ
most_chains = 1000000

-- the first and the last number of a chain
abbrev pub ends_of : List ℕ → ℕ × ℕ
ends_of chain = (get_or chain 0 0, get_or chain (length chain - 1) 0)

-- pairs by their first numbers, and where these are the same by their second
abbrev pub pair_cmp : ℕ × ℕ → ℕ × ℕ → Ordering
pair_cmp = then_cmp (λ p q. nat_cmp p.0 q.0) (λ p q. nat_cmp p.1 q.1)

-- a chain has two or more numbers, each below the next
pub record IsShapedChain (chain : List ℕ) : Type 0 where
  pub long : 2 ≤ length chain
  pub rises : IsStrictlySortedBy nat_cmp chain
  pub nodes : All (λ n. n ≤ greatest_node) chain

-- the chains of a certificate rise by their ends
pub record AreShapedChains (chains : List (List ℕ)) : Type 0 where
  pub few : length chains ≤ most_chains
  pub each : All IsShapedChain chains
  pub rise : IsStrictlySortedBy pair_cmp (map ends_of chains)

-- a trace: two nodes, a path on which they clash, times of nodes, each beside its node, and steps in the order of time
pub record Trace : Type 0 where
  pub first : ℕ
  pub second : ℕ
  pub path : List ℕ
  pub times : List (ℕ × ℕ)
  pub steps : List Step

-- the trace of these parts
abbrev pub trace_of : ℕ → ℕ → List ℕ → List (ℕ × ℕ) → List Step → Trace
trace_of first second path times steps = record { first = first; second = second; path = path; times = times; steps = steps }

-- the node of a step
abbrev pub node_of : Step → ℕ
node_of (Skip n) = n
node_of (Start n) = n
node_of (Finish n) = n

-- the times of a trace stand beside rising numbers
pub record AreShapedTimes (times : List (ℕ × ℕ)) : Type 0 where
  pub rise : IsStrictlySortedBy nat_cmp (keys_of times)
  pub small : All (λ timed. (timed.0 ≤ greatest_node) × (timed.1 ≤ greatest_time)) times

-- the steps of a trace are of nodes
abbrev pub AreShapedSteps : List Step → Type 0
AreShapedSteps steps = All (λ step. node_of step ≤ greatest_node) steps

-- the first node of a trace is below the second, and its path has a byte
pub record IsShapedTrace (trace : Trace) : Type 0 where
  pub order : trace.first < trace.second
  pub second : trace.second ≤ greatest_node
  pub path : 1 ≤ length trace.path
  pub times : AreShapedTimes trace.times
  pub steps : AreShapedSteps trace.steps
