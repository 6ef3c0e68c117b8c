use Rattle.std.proofs.Common.{map}
use Rattle.mk_index.specs.Nearest.{AreRanks}
use Rattle.mk_index.proofs.nearest.ranks.Given as goal

abbrev pub invariant-loop-path : goal.invariant-loop-path
invariant-loop-path l = AreRanks l.top (map (λ path. path.now) l.paths) l.path-index l.ranks.items
