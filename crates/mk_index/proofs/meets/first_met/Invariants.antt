use Rattle.mk_index.proofs.Meeting.{HasMetNone}
use Rattle.mk_index.proofs.meets.first_met.Given as goal

abbrev pub invariant-loop-i : goal.invariant-loop-i
invariant-loop-i l = HasMetNone l.ups l.mine l.theirs l.at l.last l.i
