use Rattle.std.proofs.Common.{◌≡◌}
use Rattle.mk_fix.proofs.Racing.{AreRacesSoFar}
use Rattle.mk_fix.proofs.races.races_among.Given as goal

-- the races among the pairs so far; the answers are about these jobs
abbrev pub invariant-loop-i : goal.invariant-loop-i
invariant-loop-i g l = record {
  so_far : AreRacesSoFar l._jobs l.pairs l.i l.races.items;
  same : g.B.Before.jobs l.before ≡ l._jobs;
}
