use Rattle.std.proofs.Common.{◌≡◌, map, take}
use Rattle.mk_index.proofs.gather.lent.Given as goal

abbrev pub invariant-loop-path : goal.invariant-loop-path
invariant-loop-path l = map (λ path. path.now) l.paths.items ≡ take l.path-index l.row
