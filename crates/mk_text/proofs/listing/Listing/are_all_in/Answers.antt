use Rattle.std.proofs.Common.{rules, ◌≡◌, ℕ, List, IsSome, sym, ◌∙◌, subst}
use Rattle.std.specs.BTreeMap.{get}
use Rattle.std.specs.List.{All}
use Rattle.std.specs.Cmp.Lexicographic.{slice_cmp}
use Rattle.std.specs.Ordering.{nat_cmp}
use Rattle.std.proofs.lemmas.List.Elements.{All-nil, All-cons, All-tail}
use Rattle.mk_text.proofs.listing.Listing.are_all_in.Goals as goal

pub loop-name-init : goal.loop-name-init
loop-name-init g c =
    let P : List ℕ → Type 0 = λ name. IsSome (get (slice_cmp nat_cmp) c.args.map.now name) in
    let same : c.into_iter-name-iterator.result ≡ c.args.self.now = c.into_iter-name-iterator.ensures.into_iter_gives.0 ∙ c.self.view_is in
    (λ all. subst (λ (names : List (List ℕ)). All P names) (sym same) all, λ all. subst (λ (names : List (List ℕ)). All P names) same all)

pub loop-name-preserved : goal.loop-name-preserved
loop-name-preserved g c =
    let P : List ℕ → Type 0 = λ name. IsSome (get (slice_cmp nat_cmp) c.args.map.now name) in
    let here : P c.in-Some.name.now = search (rules, c.contains_key.ensures, c.if-not-contains_key.false) in (
      λ all. All-tail P _ _ (subst (λ (names : List (List ℕ)). All P names) c.in-Some.ensures.steps (c.loop-name.invariant.0 all)),
      λ all. c.loop-name.invariant.1 (subst (λ (names : List (List ℕ)). All P names) (sym c.in-Some.ensures.steps) (All-cons P _ _ here all)),
    )

pub returns : goal.returns
returns g c =
    let P : List ℕ → Type 0 = λ name. IsSome (get (slice_cmp nat_cmp) c.args.map.now name) in
    (λ _. c.loop-name.invariant.1 (subst (λ (names : List (List ℕ)). All P names) (sym c.in-None.ensures.steps.0) (All-nil P)), λ _. search rules)
