use Rattle.std.proofs.Common.{arith}
use Rattle.std.proofs.lemmas.List.Filters.{dedup_is}
use Rattle.std.proofs.lemmas.List.Kept.{Contains-dedup, Contains-from_dedup, IsStrictlySortedBy-dedup}
use Rattle.std.proofs.lemmas.List.Sorted.{Contains-permutation, IsPermutation-sym}
use Rattle.mk_decide.proofs.Paired.{halts_with, pair_equal, pair_equiv, pair_ties}
use Rattle.mk_proof.proofs.Risen.{pair_cmp_total}
use Rattle.mk_decide.proofs.pairs.thin.Goals as goal

pub returns-then-len-gt-PAIR_LIMIT-clause-many : goal.returns-then-len-gt-PAIR_LIMIT-clause-many
returns-then-len-gt-PAIR_LIMIT-clause-many c = halts_with _ _ c.too_many.result c.too_many.ensures (omega (arith, c.if-len-gt-PAIR_LIMIT.true, c.len.ensures))

pub returns-then-len-gt-PAIR_LIMIT-clause-rising : goal.returns-then-len-gt-PAIR_LIMIT-clause-rising
returns-then-len-gt-PAIR_LIMIT-clause-rising c = rw (dedup_is _ _ _ c.dedup.ensures.filtered) (IsStrictlySortedBy-dedup pair_cmp_total pair_ties _ c.sort_unstable.ensures.sorted)

pub returns-then-len-gt-PAIR_LIMIT-clause-same : goal.returns-then-len-gt-PAIR_LIMIT-clause-same
returns-then-len-gt-PAIR_LIMIT-clause-same c = λ a b.
    let is = dedup_is _ _ _ c.dedup.ensures.filtered in
    let moved = c.sort_unstable.ensures.permutation in (
      λ there. Contains-permutation _ _ (a, b) (IsPermutation-sym _ _ moved) (Contains-from_dedup _ _ (a, b) (rw is at there)),
      λ there. rw is (Contains-dedup pair_equiv pair_equal _ (a, b) (Contains-permutation _ _ (a, b) moved there)),
    )

pub returns-clause-rising : goal.returns-clause-rising
returns-clause-rising c = rw (dedup_is _ _ _ c.dedup.ensures.filtered) (IsStrictlySortedBy-dedup pair_cmp_total pair_ties _ c.sort_unstable.ensures.sorted)

pub returns-clause-same : goal.returns-clause-same
returns-clause-same c = λ a b.
    let is = dedup_is _ _ _ c.dedup.ensures.filtered in
    let moved = c.sort_unstable.ensures.permutation in (
      λ there. Contains-permutation _ _ (a, b) (IsPermutation-sym _ _ moved) (Contains-from_dedup _ _ (a, b) (rw is at there)),
      λ there. rw is (Contains-dedup pair_equiv pair_equal _ (a, b) (Contains-permutation _ _ (a, b) moved there)),
    )
