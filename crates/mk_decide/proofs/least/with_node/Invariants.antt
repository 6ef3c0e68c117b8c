use Rattle.std.proofs.Common.{ℕ, ◌≡◌, ◌≢◌, ◌<◌, ◌-◌}
use Rattle.mk_index.specs.Bits.{HasBit}
use Rattle.mk_decide.specs.LeastRaces.{IsFound, IsSettled, Lowers}
use Rattle.mk_decide.proofs.least.with_node.Given as goal

-- what was found is a race, no later than before; the marked nodes so far are settled with b; the answers are about these jobs
abbrev pub invariant-loop-a : goal.invariant-loop-a
invariant-loop-a g l = record {
  race : IsFound l.jobs l.least;
  lower : Lowers l.fn.found l.least;
  settled : (a : ℕ) → a < l.from → a ≢ l.b → HasBit l.row a → IsSettled l.jobs l.least a l.b;
  same : g.B.Before.jobs l.before ≡ l.jobs;
}

abbrev pub decreases-loop-a : goal.decreases-loop-a
decreases-loop-a g l = 20032 - l.from
