use Rattle.std.proofs.Common.{◌≡◌, ◌++◌, take}
use Rattle.std.specs.List.{flat_map}
use Rattle.mk_report.specs.MissingText.{tree_at}
use Rattle.mk_report.proofs.missing.push_all_trees.Given as goal

-- the lines so far are there
abbrev pub invariant-loop-place : goal.invariant-loop-place
invariant-loop-place l = l.out.items ≡ l.initial.out.items ++ flat_map (tree_at l.jobs l.found) (take l.place-index l.found.trees.items)
