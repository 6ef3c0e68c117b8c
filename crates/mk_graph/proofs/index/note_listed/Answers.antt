use Rattle.std.proofs.Common.{◌∙◌, List, [], ◌∷◌, ◌++◌, sym, ap, subst, append_assoc}
use Rattle.std.proofs.lemmas.List.{append-nil}
use Rattle.mk_name.specs.Names.{Name}
use Rattle.mk_graph.specs.Places.{AreNamePlaces}
use Rattle.mk_graph.proofs.index.note_listed.Goals as goal

pub loop-name-init : goal.loop-name-init
loop-name-init c = ([], c.into_iter-name-iterator.ensures.into_iter_gives.0 ∙ c.names-name-items.ensures, λ none. none)

pub loop-name-preserved : goal.loop-name-preserved
loop-name-preserved c =
    let i = c.loop-name.invariant in (
      i.0 ++ c.in-Some.name.now ∷ [],
      append_assoc i.0 (c.in-Some.name.now ∷ []) c.next.new.self ∙ ap (λ names. i.0 ++ names) (sym c.in-Some.ensures.steps) ∙ i.1,
      λ none. c.in_ok-note_name.ensures i.0 (i.2 none),
    )

pub returns : goal.returns
returns c =
    let i = c.loop-name.invariant in
    λ none. subst (λ (names : List Name). AreNamePlaces c.args.book.now.suffixes names c.loop-name.table)
    (sym (append-nil i.0) ∙ ap (λ names. i.0 ++ names) (sym c.in-None.ensures.steps.0) ∙ i.1) (i.2 none)
