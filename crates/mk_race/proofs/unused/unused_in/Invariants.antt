use Rattle.mk_race.proofs.Noting.{AreTo}
use Rattle.mk_race.proofs.unused.unused_in.Given as goal

-- the numbers so far, with those that come, are all
abbrev pub invariant-loop-n : goal.invariant-loop-n
invariant-loop-n l = AreTo l.footprints l.plan.nodes l.n l.numbers.items
