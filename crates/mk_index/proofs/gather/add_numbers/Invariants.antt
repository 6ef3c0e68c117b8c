use Rattle.std.proofs.Common.{◌≡◌, ◌++◌, map, slice_index, take}
use Rattle.mk_index.proofs.gather.add_numbers.Given as goal

abbrev pub invariant-loop-n : goal.invariant-loop-n
invariant-loop-n l = l.numbers.items ≡ l.initial.numbers.items ++ map (λ n. slice_index l.places n) (take l.n-index l.theirs)
