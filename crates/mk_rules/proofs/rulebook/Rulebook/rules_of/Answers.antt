use Rattle.std.proofs.Common.{◌<◌, length, sym, ◌∙◌, ap, map}
use Rattle.std.proofs.lemmas.List.Elements.{All-same}
use Rattle.mk_rules.specs.Book.{places_of}
use Rattle.mk_rules.proofs.Indexes.{found-is_target, places_none, places_of-within, row_at}
use Rattle.mk_rules.proofs.rulebook.Rulebook.rules_of.Goals as goal

pub returns-in-Some-clause-places : goal.returns-in-Some-clause-places
returns-in-Some-clause-places c =
    c.as_slice.ensures.value
    ∙ row_at (λ row. row.items) c.self.inside.rules.items _ _ c.args.name.now _ c.self.invariant.index (sym c.in-Some.ensures.index) _ c.index.ensures
    ∙ ap (λ entries. places_of entries c.args.name.now) (ap (λ b. b.rules) c.self.view_is)

pub returns-in-None-clause-places : goal.returns-in-None-clause-places
returns-in-None-clause-places c =
    let none = sym (found-is_target c.self.inside.rules.items _ c.args.name.now c.self.invariant.index.order) ∙ sym c.in-None.ensures.found in
    sym (ap (map (λ e. e.0)) (places_none c.self.inside.rules.items 0 _ none)) ∙ ap (λ entries. places_of entries c.args.name.now) (ap (λ b. b.rules) c.self.view_is)

pub returns-in-Some-clause-within : goal.returns-in-Some-clause-within
returns-in-Some-clause-within c =
    All-same (λ place. place < length c.args.self.now.rules) _ _ (returns-in-Some-clause-places c) (places_of-within c.args.self.now.rules c.args.name.now)
