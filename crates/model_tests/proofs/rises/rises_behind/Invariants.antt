use Rattle.std.proofs.Common.{◌≡◌, ◌-◌}
use Rattle.model_tests.proofs.rises.rises_behind.Given as goal

-- the jobs stay
abbrev pub invariant-loop-b : goal.invariant-loop-b
invariant-loop-b g l = g.B.Before.jobs l.before ≡ g.B.Before.jobs l.initial.before

abbrev pub decreases-loop-b : goal.decreases-loop-b
decreases-loop-b g l = l.count - l.b
