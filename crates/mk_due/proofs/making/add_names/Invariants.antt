use Rattle.std.proofs.Common.{◌≡◌, drop}
use Rattle.std.specs.Prelude.{fold}
use Rattle.std.specs.BTreeSet.{insert_key}
use Rattle.std.specs.Cmp.Lexicographic.{slice_cmp}
use Rattle.std.specs.Ordering.{nat_cmp}
use Rattle.mk_due.specs.Items.{names_of}
use Rattle.mk_due.proofs.making.add_names.Given as goal

-- with the names of the items that are left, they are all
abbrev pub invariant-loop-item : goal.invariant-loop-item
invariant-loop-item l = fold (insert_key (slice_cmp nat_cmp)) l.names.keys (names_of (drop l.item-index l.items)) ≡ fold (insert_key (slice_cmp nat_cmp)) l.initial.names.keys (names_of l.items)
