use Rattle.std.proofs.Common.{rules, ◌≡◌, List, IsTrue, sym, ◌∙◌, subst}
use Rattle.std.specs.BTreeMap.{keys}
use Rattle.std.specs.List.{All}
use Rattle.std.proofs.lemmas.List.Elements.{All-nil, All-cons, All-tail}
use Rattle.mk_name.specs.Names.{Name, has, same_name}
use Rattle.mk_sched.proofs.store.are_listed.Goals as goal

pub loop-name-init : goal.loop-name-init
loop-name-init c =
    let P : Name → Type 0 = λ name. IsTrue (has same_name c.args.listing.now name) in
    let same : c.into_iter-name-iterator.result ≡ keys c.args.files.now = c.into_iter-name-iterator.ensures.into_iter_gives ∙ c.keys-name-items.ensures.rest in
    (λ all. subst (λ (names : List Name). All P names) (sym same) all, λ all. subst (λ (names : List Name). All P names) same all)

pub loop-name-preserved : goal.loop-name-preserved
loop-name-preserved c =
    let P : Name → Type 0 = λ name. IsTrue (has same_name c.args.listing.now name) in
    let here : P c.in-Some.name.now = search (rules, c.contains.ensures, c.if-not-contains.false) in (
      λ all. All-tail P _ _ (subst (λ (names : List Name). All P names) c.in-Some.ensures.steps (c.loop-name.invariant.0 all)),
      λ all. c.loop-name.invariant.1 (subst (λ (names : List Name). All P names) (sym c.in-Some.ensures.steps) (All-cons P _ _ here all)),
    )

pub returns : goal.returns
returns c =
    let P : Name → Type 0 = λ name. IsTrue (has same_name c.args.listing.now name) in
    (λ _. c.loop-name.invariant.1 (subst (λ (names : List Name). All P names) (sym c.in-None.ensures.steps.0) (All-nil P)), λ _. search rules)
