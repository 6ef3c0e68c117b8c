use Rattle.std.proofs.Common.{◌≡◌}
use Rattle.mk_decide.specs.Chosen.{NoneFrom}
use Rattle.mk_decide.proofs.chains.first_from.Given as goal

-- none of those so far is looked for; and the answers are still about the same jobs
abbrev pub invariant-loop-p : goal.invariant-loop-p
invariant-loop-p g l = NoneFrom (g.B.Before.jobs l.fn.before) l.a l.nodes l.p-index × (g.B.Before.jobs l.before ≡ g.B.Before.jobs l.fn.before)
