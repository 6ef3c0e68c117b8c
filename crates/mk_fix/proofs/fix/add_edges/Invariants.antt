use Rattle.std.proofs.Common.{take}
use Rattle.mk_fix.proofs.Musting.{AreGathered}
use Rattle.mk_fix.proofs.fix.add_edges.Given as goal

-- edges are gathered from the nodes so far
abbrev pub invariant-loop-a : goal.invariant-loop-a
invariant-loop-a l = AreGathered l.jobs l.row l.firsts (take l.a-index l.firsts) l.b l.initial.edges.items l.edges.items
