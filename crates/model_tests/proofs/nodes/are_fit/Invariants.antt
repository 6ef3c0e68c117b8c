use Rattle.std.proofs.Common.{ℕ, ◌<◌}
use Rattle.model_tests.specs.Nodes.{FitsBehind}
use Rattle.model_tests.proofs.nodes.are_fit.Given as goal

-- the nodes so far fit
abbrev pub invariant-loop-place : goal.invariant-loop-place
invariant-loop-place l = (k : ℕ) → k < l.place → FitsBehind l.nodes k
