use Rattle.std.proofs.Common.{◌≡◌, take}
use Rattle.mk_fix.specs.Added.{more_needs}
use Rattle.mk_fix.proofs.added.nodes_with.Given as goal

-- the nodes so far are there
abbrev pub invariant-loop-n : goal.invariant-loop-n
invariant-loop-n l = l.nodes.items ≡ take l.n (more_needs l.edges 0 l.jobs.plan.nodes)
