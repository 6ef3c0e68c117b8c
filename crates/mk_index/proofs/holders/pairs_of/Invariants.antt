use Rattle.mk_index.specs.Holders.{ArePairs}
use Rattle.mk_index.proofs.holders.pairs_of.Given as goal

abbrev pub invariant-loop-n : goal.invariant-loop-n
invariant-loop-n l = ArePairs l.rows l.n l.pairs.items
