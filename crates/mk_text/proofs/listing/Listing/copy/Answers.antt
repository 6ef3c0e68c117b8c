use Rattle.std.proofs.Common.{ap, subst, ◌∙◌}
use Rattle.std.specs.BTreeSet.{insert_key}
use Rattle.std.specs.Cmp.Lexicographic.{nat_list_cmp_total, slice_cmp}
use Rattle.std.specs.List.Sorted.{IsStrictlySortedBy}
use Rattle.std.specs.Ordering.{nat_cmp}
use Rattle.mk_text.proofs.Copies.{next_copied}
use Rattle.mk_text.proofs.listing.Listing.copy.Goals as goal

pub loop-name-preserved : goal.loop-name-preserved
loop-name-preserved c =
    let order = slice_cmp nat_cmp in
    let rising = subst (IsStrictlySortedBy order) c.self.view_is c.into_iter-name-iterator.ensures.into_iter_gives.4 in
    next_copied order nat_list_cmp_total _ _ _ _ c.args.self.now _ rising c.loop-name.invariant c.in-Some.ensures.steps
    (c.in_ok-insert.ensures.keys ∙ ap (insert_key order c.loop-name.names.keys) c.in_ok-copy.ensures)
