use Rattle.std.proofs.Common.{◌≡◌, ◌∙◌, true, false, [], ◌∷◌, List, Ok, ap, refl, subst, sym}
use Rattle.std.specs.Prelude.{IfErr, OnOk, Result}
use Rattle.mk_name.specs.Gives.{Halts}
use Rattle.mk_name.specs.Names.{has, same_name}
use Rattle.mk_name.specs.Reported.{Reported}
use Rattle.mk_due.specs.Items.{DueItem, leaves_of, names_of, with_item, with_items}
use Rattle.mk_due.proofs.Adding.{there_is}
use Rattle.mk_due.proofs.Leaves.{leaf_kept, leaf_new, leaf_there, on_ok}
use Rattle.mk_due.proofs.tally.Tally.add_leaf.Goals as goal

pub returns-then-is_some-clause-added : goal.returns-then-is_some-clause-added
returns-then-is_some-clause-added c =
    let items = c.args.self.now.items.items in
    let here : has same_name (names_of items) c.args.name.now ≡ true =
    sym (there_is c.args.self.now.names items c.args.name.now c.args.name.now c.number.result c.is_some.result c.requires.tally.names_are refl c.number.ensures c.is_some.ensures) ∙ c.if-is_some.true in
    leaf_there c.args.listing.now c.args.place c.args.label.now items c.args.name.now here

pub returns-clause-new : goal.returns-clause-new
returns-clause-new c =
    let items = c.args.self.now.items.items in
    on_ok c.push.result
    (λ added. (leaf_kept c.args.listing.now c.args.place c.args.label.now items c.args.name.now c.push.new.self.items.items c.requires.new
    (ap (with_item c.args.place items) (sym c.in_ok-leaf.ensures) ∙ added)).new) c.push.ensures.added

pub returns-clause-added : goal.returns-clause-added
returns-clause-added c =
    let items = c.args.self.now.items.items in
    let fresh : has same_name (names_of items) c.args.name.now ≡ false =
    sym (there_is c.args.self.now.names items c.args.name.now c.args.name.now c.number.result c.is_some.result c.requires.tally.names_are refl c.number.ensures c.is_some.ensures) ∙ c.if-is_some.false in
    let same : with_items c.args.place items (leaves_of c.args.listing.now c.args.place c.args.label.now items (c.args.name.now ∷ [])) ≡ with_item c.args.place items c.in_ok-leaf.leaf =
    leaf_new c.args.listing.now c.args.place c.args.label.now items c.args.name.now fresh ∙ ap (with_item c.args.place items) (sym c.in_ok-leaf.ensures) in
    subst (λ (r : Result (List DueItem) Reported). OnOk c.push.result (r ≡ Ok c.push.new.self.items.items)) (sym same) c.push.ensures.added

pub returns-clause-fault : goal.returns-clause-fault
returns-clause-fault c =
    let items = c.args.self.now.items.items in
    let fresh : has same_name (names_of items) c.args.name.now ≡ false =
    sym (there_is c.args.self.now.names items c.args.name.now c.args.name.now c.number.result c.is_some.result c.requires.tally.names_are refl c.number.ensures c.is_some.ensures) ∙ c.if-is_some.false in
    let same : with_items c.args.place items (leaves_of c.args.listing.now c.args.place c.args.label.now items (c.args.name.now ∷ [])) ≡ with_item c.args.place items c.in_ok-leaf.leaf =
    leaf_new c.args.listing.now c.args.place c.args.label.now items c.args.name.now fresh ∙ ap (with_item c.args.place items) (sym c.in_ok-leaf.ensures) in
    subst (λ (r : Result (List DueItem) Reported). IfErr c.push.result (λ halt. Halts halt r)) (sym same) c.push.ensures.fault
