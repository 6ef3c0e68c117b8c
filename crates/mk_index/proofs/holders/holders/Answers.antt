use Rattle.std.proofs.Common.{rules, ℕ, ◌<◌, ◌↔◌, List, Contains, sym, subst}
use Rattle.std.specs.List.Sorted.{IsNonDecreasingBy, IsPermutation}
use Rattle.std.proofs.lemmas.List.Sorted.{IsNonDecreasingBy-from_sort_by_key}
use Rattle.mk_index.specs.Holders.{AreFirsts}
use Rattle.mk_index.specs.Table.{row_of}
use Rattle.mk_index.proofs.Holding.{held_by, if_ok}
use Rattle.mk_index.proofs.holders.holders.Goals as goal

pub firsts-requires : goal.firsts-requires
firsts-requires c = record {
  rise = subst (λ (pairs : List (ℕ × ℕ)). IsNonDecreasingBy (λ (p : ℕ × ℕ). p.0) pairs) (sym c.deref.ensures.value)
      (IsNonDecreasingBy-from_sort_by_key (λ (p : ℕ × ℕ). p.0) c.sort_unstable_by_key.new.self.items c.sort_unstable_by_key.ensures.sorted (λ a r q k. search rules));
}

pub returns-clause-hold : goal.returns-clause-hold
returns-clause-hold c =
    let rows = c.args.rows.now in
    let count = c.args.count in
    if_ok c.firsts.result (λ (holders : List (List ℕ)). AreFirsts c.deref.result.now count holders)
    (λ (holders : List (List ℕ)). (t n : ℕ) → t < count → Contains (row_of holders t) n ↔ Contains (row_of rows n) t) c.firsts.ensures
    (λ holders firsts t n below. held_by rows holders c.in_ok-pairs.pairs.items c.deref.result.now count t n c.in_ok-pairs.ensures
    (subst (λ (pairs : List (ℕ × ℕ)). IsPermutation c.in_ok-pairs.pairs.items pairs) (sym c.deref.ensures.value) c.sort_unstable_by_key.ensures.permutation) firsts below)
