use Rattle.std.proofs.lemmas.List.Filters.{dedup_is}
use Rattle.std.proofs.lemmas.List.Kept.{Contains-dedup, Contains-from_dedup, IsStrictlySortedBy-dedup}
use Rattle.std.proofs.lemmas.List.Sorted.{Contains-permutation, IsPermutation-sym}
use Rattle.mk_decide.proofs.Paired.{pair_equal, pair_equiv, pair_ties}
use Rattle.mk_proof.proofs.Risen.{pair_cmp_total}
use Rattle.mk_missing.proofs.order.in_order.Goals as goal

pub returns-clause-rise : goal.returns-clause-rise
returns-clause-rise c = rw (dedup_is _ _ _ c.dedup.ensures.filtered) (IsStrictlySortedBy-dedup pair_cmp_total pair_ties _ c.sort_unstable.ensures.sorted)

pub returns-clause-same : goal.returns-clause-same
returns-clause-same c = λ k n.
    let is = dedup_is _ _ _ c.dedup.ensures.filtered in
    let moved = c.sort_unstable.ensures.permutation in (
      λ there. Contains-permutation _ _ (k, n) (IsPermutation-sym _ _ moved) (Contains-from_dedup _ _ (k, n) (rw is at there)),
      λ there. rw is (Contains-dedup pair_equiv pair_equal _ (k, n) (Contains-permutation _ _ (k, n) moved there)),
    )
