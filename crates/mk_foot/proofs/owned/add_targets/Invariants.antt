use Rattle.std.proofs.Common.{◌≡◌, fold, map, take}
use Rattle.std.specs.BTreeSet.{insert_key}
use Rattle.std.specs.Cmp.Lexicographic.{slice_cmp}
use Rattle.std.specs.Ordering.{nat_cmp}
use Rattle.mk_rules.specs.Book.{targets_of}
use Rattle.mk_foot.proofs.owned.add_targets.Given as goal

-- the targets so far are added
abbrev pub invariant-loop-number : goal.invariant-loop-number
invariant-loop-number l = map (λ name. name.now) l.names.keys ≡ fold (insert_key (slice_cmp nat_cmp)) (map (λ name. name.now) l.initial.names.keys) (take l.number (targets_of l.rulebook.rules))
