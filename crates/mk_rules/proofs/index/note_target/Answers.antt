use Rattle.std.proofs.Common.{Some, [], ◌∷◌, ◌++◌, sym, ◌∙◌, ap, map}
use Rattle.std.proofs.lemmas.List.{map-append}
use Rattle.indexmap.specs.IndexSet.{insert_key}
use Rattle.mk_name.specs.Names.{same_name}
use Rattle.mk_rules.specs.Index.{with_target}
use Rattle.mk_rules.proofs.Notes.{absent_noted, indexed_same, present_noted}
use Rattle.mk_rules.proofs.index.note_target.Goals as goal

pub returns-in_ok-add_place-in-Some-clause-noted :
    goal.returns-in_ok-add_place-in-Some-clause-noted
returns-in_ok-add_place-in-Some-clause-noted c = λ front e at index.
    let row = c.index_mut.result.now in
    present_noted (λ v. v.items) front e c.args.name.now c.args.targets.now.keys c.args.places.now.items c.in-Some.number row c.add_place.new.row
    index (sym c.in-Some.ensures.index) c.index_mut.ensures.value
    (λ h. c.in_ok-add_place-in-Some.ensures.there (h ∙ ap Some at))
    (λ h. c.in_ok-add_place-in-Some.ensures.added (λ k. h (k ∙ ap Some (sym at))) ∙ ap (λ n. row.items ++ n ∷ []) (sym at))

pub returns-in_ok-push-in-None-clause-noted : goal.returns-in_ok-push-in-None-clause-noted
returns-in_ok-push-in-None-clause-noted c = λ front e at index.
    let names = c.in_ok-insert-in-None.ensures.keys ∙ ap (insert_key same_name c.args.targets.now.keys) c.in_ok-copy-in-None.ensures in
    let rows =
    ap (map (λ row. row.items)) c.in_ok-push-in-None.ensures.items
    ∙ map-append (λ row. row.items) c.args.places.now.items (c.in_ok-vec-in-None.field-0 ∷ [])
    ∙ ap (λ row. map (λ v. v.items) c.args.places.now.items ++ row ∷ []) (c.in_ok-vec-in-None.ensures.items ∙ ap (λ n. n ∷ []) (sym at)) in
    indexed_same (front ++ with_target e c.args.name.now ∷ []) _ _ _ _ names rows
    (absent_noted front e c.args.name.now c.args.targets.now.keys _ index (sym c.in-None.ensures.found))
