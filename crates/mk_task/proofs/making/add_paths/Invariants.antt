use Rattle.std.proofs.Common.{◌≡◌, fold}
use Rattle.std.specs.BTreeSet.{insert_key}
use Rattle.std.specs.Vec.Iter.{into_iter_items}
use Rattle.mk_path.specs.Paths.{path_cmp}
use Rattle.mk_task.proofs.making.add_paths.Given as goal

-- with those that are left, the paths are all
abbrev pub invariant-loop-path : goal.invariant-loop-path
invariant-loop-path l = fold (insert_key path_cmp) l.set.keys (into_iter_items l.path-iterator) ≡ fold (insert_key path_cmp) l.initial.set.keys l.fn.paths.items
