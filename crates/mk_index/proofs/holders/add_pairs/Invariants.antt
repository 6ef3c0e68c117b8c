use Rattle.std.proofs.Common.{◌≡◌, ◌++◌, map, take}
use Rattle.mk_index.proofs.holders.add_pairs.Given as goal

abbrev pub invariant-loop-t : goal.invariant-loop-t
invariant-loop-t l = l.pairs.items ≡ l.initial.pairs.items ++ map (λ t. (t, l.n)) (take l.t-index l.row)
