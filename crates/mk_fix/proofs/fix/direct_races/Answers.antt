use Rattle.std.proofs.Common.{ℕ, ◌<◌, List, [], Vec, Contains, get_or, map, sym, ap, ◌∙◌, subst, inl, inr}
use Rattle.std.specs.Global.{Global}
use Rattle.std.proofs.lemmas.List.Filters.{dedup_is}
use Rattle.std.proofs.lemmas.List.Kept.{Contains-dedup, Contains-from_dedup, IsStrictlySortedBy-dedup}
use Rattle.std.proofs.lemmas.List.Sorted.{Contains-permutation, IsPermutation-sym}
use Rattle.mk_jobs.proofs.JobsLemmas.{clash_live}
use Rattle.mk_proof.proofs.Risen.{pair_cmp_total}
use Rattle.mk_decide.specs.Pairs.{PairsRise}
use Rattle.mk_decide.proofs.Paired.{pair_equal, pair_equiv, pair_ties}
use Rattle.mk_fix.specs.Musts.{AreFirsts}
use Rattle.mk_fix.proofs.Made.{firsts_are, pairs_to_nodes}
use Rattle.mk_fix.proofs.fix.direct_races.Goals as goal

pub sources_of-requires : goal.sources_of-requires
sources_of-requires c = pairs_to_nodes c.args.jobs.now c.args.pairs.now c.requires.pairs

pub add_races-requires-clause-firsts : goal.add_races-requires-clause-firsts
add_races-requires-clause-firsts c = λ b below.
    subst (λ (row : List ℕ). AreFirsts c.args.jobs.now row b)
    (sym (ap (λ (rows : List (Vec ℕ Global)). get_or (map (λ (v : Vec ℕ Global). v.items) rows) b []) c.deref.ensures.value ∙ c.in_ok-firsts.ensures.rows b below))
    (firsts_are c.args.jobs.now c.args.pairs.now b c.requires.pairs)

pub returns : goal.returns
returns c =
    let is = dedup_is _ _ _ c.dedup.ensures.filtered in
    let moved = c.sort_unstable.ensures.permutation in
    let new = c.dedup.new.self.items in
    let found = c.add_races.new.edges.items in
    let below = c.in_ok-add_races.ensures in
    let rise : PairsRise new = rw is (IsStrictlySortedBy-dedup pair_cmp_total pair_ties _ c.sort_unstable.ensures.sorted) in
    let down : (a b : ℕ) → Contains new (a, b) → Contains found (a, b) =
    λ a b there. Contains-permutation _ _ (a, b) (IsPermutation-sym _ _ moved) (Contains-from_dedup _ _ (a, b) (rw is at there)) in
    let up : (a b : ℕ) → Contains found (a, b) → Contains new (a, b) =
    λ a b there. rw is (Contains-dedup pair_equiv pair_equal _ (a, b) (Contains-permutation _ _ (a, b) moved there)) in
    record {
      rise = rise;
      only = λ a b h. below.only a b (down a b h);
      all = λ a b rises clash. elim (below.all a b (clash_live clash.1).second_node rises clash) [
        | inl there ↦ inl (up a b there)
        | inr other ↦ inr other
      ];
    }
