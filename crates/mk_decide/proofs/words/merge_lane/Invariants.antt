use Rattle.std.proofs.Common.{◌≡◌}
use Rattle.mk_decide.proofs.Merging.{merged}
use Rattle.mk_decide.proofs.words.merge_lane.Given as goal

abbrev pub invariant-loop-i : goal.invariant-loop-i
invariant-loop-i l = l.into ≡ merged l.i l.initial.into l.from
