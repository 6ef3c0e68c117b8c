use Rattle.std.proofs.Common.{◌≡◌, map, take}
use Rattle.std.specs.List.{filter}
use Rattle.mk_index.specs.Nearest.{is_tree}
use Rattle.mk_index.proofs.nearest.trees_of.Given as goal

abbrev pub invariant-loop-path : goal.invariant-loop-path
invariant-loop-path l = map (λ tree. tree.now) l.trees.items ≡ filter is_tree (map (λ path. path.now) (take l.path-index l.paths))
