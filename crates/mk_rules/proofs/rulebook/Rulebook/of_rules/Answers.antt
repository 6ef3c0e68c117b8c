use Rattle.std.proofs.Common.{◌≡◌, ◌+◌, ◌<◌, List, [], ◌∷◌, ◌++◌, sym, ◌∙◌, ap, subst, arith, get_or, length, map, take}
use Rattle.std.proofs.lemmas.List.{length-take-le, take_more}
use Rattle.mk_rules.specs.Book.{Entry}
use Rattle.mk_rules.specs.Index.{IsIndexed}
use Rattle.mk_rules.proofs.rulebook.Rulebook.of_rules.Goals as goal

pub loop-place-preserved : goal.loop-place-preserved
loop-place-preserved c =
    let rules = c.args.rules.items in
    let place = c.loop-place.place in
    let rule = c.rule-item.result in
    let all = c.deref-rule-items.ensures.value in
    let Within : List Entry → Type 0 = λ l. place < length l in
    let Is : List Entry → Type 0 = λ l. rule ≡ get_or l place rule in
    let Indexed : List Entry → Type 0 = λ l. IsIndexed l c.note_entry.new.targets.keys (map (λ row. row.items) c.note_entry.new.places.items) in
    let within : place < length rules = subst Within all c.loop-place-test.true in
    let more : take (place + 1) rules ≡ take place rules ++ rule ∷ [] = take_more rules place rule within ∙ ap (λ x. take place rules ++ x ∷ []) (sym (subst Is all c.rule-item.is)) in
    record {
      long = c.in_ok-note_entry.ensures.long;
      index = subst Indexed (sym more) (c.in_ok-note_entry.ensures.noted (take place rules) rule (length-take-le place rules (omega (arith, within))) (sym c.targets.ensures) c.loop-place.invariant.index);
    }
