use Rattle.std.proofs.Common.{◌∙◌, List, ap, ℕ}
use Rattle.std.specs.BTreeMap.{insert_entry}
use Rattle.std.specs.Cmp.Lexicographic.{nat_list_cmp_total, slice_cmp}
use Rattle.std.specs.Ordering.{nat_cmp}
use Rattle.mk_text.proofs.Copies.{next_entry_copied}
use Rattle.mk_foot.proofs.footprints.copied_by_target.Goals as goal

pub loop-target-preserved : goal.loop-target-preserved
loop-target-preserved c =
    let put = insert_entry (slice_cmp nat_cmp) c.loop-target.copy.entries in
    next_entry_copied (slice_cmp nat_cmp) nat_list_cmp_total _ _ _ _ c.args.footprints.now.entries _ _ c.into_iter-target-iterator.ensures.into_iter_gives.5 c.loop-target.invariant
    c.in-Some.ensures.steps (c.in_ok-insert.ensures.entries ∙ ap (λ (k : List ℕ). put k c.in_ok-copy-2.field-0) c.in_ok-copy.ensures ∙ ap (put c.in-Some.target.now) c.in_ok-copy-2.ensures)

pub loop-target-preserved-in_ok-insert : goal.loop-target-preserved-in_ok-insert
loop-target-preserved-in_ok-insert c =
    let put = insert_entry (slice_cmp nat_cmp) c.loop-target.copy.entries in
    next_entry_copied (slice_cmp nat_cmp) nat_list_cmp_total _ _ _ _ c.args.footprints.now.entries _ _ c.into_iter-target-iterator.ensures.into_iter_gives.5 c.loop-target.invariant
    c.in-Some.ensures.steps (c.in_ok-insert.ensures.entries ∙ ap (λ (k : List ℕ). put k c.in_ok-copy-2.field-0) c.in_ok-copy.ensures ∙ ap (put c.in-Some.target.now) c.in_ok-copy-2.ensures)
