use Rattle.std.proofs.Common.{◌≡◌}
use Rattle.mk_decide.proofs.Choosing.{IsBuilt}
use Rattle.mk_decide.proofs.chains.fill_chain.Given as goal

-- the chain from the front on, backwards; and the answers are still about these jobs
abbrev pub invariant-loop-p : goal.invariant-loop-p
invariant-loop-p g l = IsBuilt l.jobs l.a l.b l.front l.nodes.items × (g.B.Before.jobs l.before ≡ l.jobs)

-- the numbers fall
abbrev pub decreases-loop-p : goal.decreases-loop-p
decreases-loop-p g l = l.front
