use Rattle.std.proofs.Common.{ℕ, ◌≡◌, ◌↔◌, List, [], ◌∷◌, Contains, get_or, ap, subst}
use Rattle.std.proofs.lemmas.List.Filters.{dedup_is}
use Rattle.std.proofs.lemmas.List.Kept.{Contains-dedup_nat, Contains-from_dedup}
use Rattle.std.proofs.lemmas.List.Sorted.{Contains-permutation, IsPermutation-sym}
use Rattle.std.proofs.lemmas.Map.Keys.{IsStrictlyIncreasing-dedup}
use Rattle.mk_index.specs.Index.{Index, holders_of}
use Rattle.mk_index.specs.Placed.{number_at}
use Rattle.mk_index.specs.Ups.{IsHeldOver, Ups}
use Rattle.mk_index.proofs.Placing.{held_has}
use Rattle.mk_index.proofs.index.Index.users_over.Goals as goal

pub returns-clause-rise : goal.returns-clause-rise
returns-clause-rise c = rw (dedup_is _ _ _ c.dedup.ensures.filtered) (IsStrictlyIncreasing-dedup _ c.sort_unstable.ensures.sorted)

pub returns-clause-over : goal.returns-clause-over
returns-clause-over c = λ uses n is.
    let index = c.args.self.now in
    let written = c.args.written in
    let place = c.args.place in
    let found = c.in_ok-nodes.nodes.items in
    let moved = c.sort_unstable.ensures.permutation in
    let left = dedup_is _ _ _ c.dedup.ensures.filtered in
    let number : get_or c.numbers.result.now place.place 0 ≡ number_at index place = ap (λ (row : List ℕ). get_or row place.place 0) c.numbers.ensures.numbers in
    let held : Contains found n ↔ IsHeldOver index.ups (holders_of index written) (number_at index place ∷ []) n =
    subst (λ (ups : Ups). Contains found n ↔ IsHeldOver ups (holders_of index written) (number_at index place ∷ []) n) (ap (λ (i : Index). i.ups) c.self.view_is)
    (subst (λ (holders : List (List ℕ)). Contains found n ↔ IsHeldOver c.self.inside.ups holders (number_at index place ∷ []) n) c.holders.ensures.is
    (subst (λ (q : ℕ). Contains found n ↔ IsHeldOver c.self.inside.ups c.holders.result.now (q ∷ []) n) number (c.in_ok-nodes.ensures n))) in
    let has = held_has uses index c.holders.ensures.whole is place written n c.requires in (
      λ there. has.0 (held.0 (Contains-permutation _ _ n (IsPermutation-sym _ _ moved) (Contains-from_dedup _ _ n (rw left at there)))),
      λ over. rw left (Contains-dedup_nat _ n (Contains-permutation _ _ n moved (held.1 (has.1 over)))),
    )
