use Rattle.std.proofs.Common.{◌≡◌, ◌*◌, All, drop}
use Rattle.mk_fix.specs.Musts.{AreDirectBelow, AreMustRows}
use Rattle.mk_fix.proofs.fix.add_races.Given as goal

-- the rows so far are filled, the others clear; the direct races that end in the nodes so far are there
abbrev pub invariant-loop-b : goal.invariant-loop-b
invariant-loop-b l = record {
  rows : AreMustRows l.jobs l.width l.words l.b;
  clear : All (λ word. word ≡ 0) (drop (l.b * l.width) l.words);
  below : AreDirectBelow l.jobs l.edges.items l.b;
}
