use Rattle.std.proofs.Common.{◌≡◌, List, [], ◌∷◌, ◌++◌, sym, ◌∙◌, ap, map, refl, subst, take}
use Rattle.std.proofs.lemmas.List.{take_more}
use Rattle.mk_name.specs.Names.{Name}
use Rattle.mk_rules.specs.Book.{Entry}
use Rattle.mk_rules.specs.Index.{IsIndexed}
use Rattle.mk_rules.proofs.Notes.{indexed-empty}
use Rattle.mk_rules.proofs.index.note_entry.Goals as goal

pub loop-name-init : goal.loop-name-init
loop-name-init c = record { long = c.requires; noted = λ front e at none index. indexed-empty front e _ _ none index }

pub loop-name-preserved : goal.loop-name-preserved
loop-name-preserved c = record {
  long = c.in_ok-note_target.ensures.long;
  noted = λ front e at targets index.
      let before : Entry = record e { targets = take c.loop-name.name-index c.args.names.now } in
      let grown : take c.loop-name.name-index c.args.names.now ++ c.name-item.result ∷ [] ≡ e.targets =
      ap (λ t. take c.loop-name.name-index c.args.names.now ++ t ∷ []) c.name-item.is ∙ sym (take_more c.args.names.now c.loop-name.name-index c.name-item.result c.loop-name-test.true) ∙ sym targets in
      let Indexes : List Name → Type 0 = λ l. IsIndexed (front ++ (record e { targets = l }) ∷ []) c.note_target.new.targets.keys (map (λ row. row.items) c.note_target.new.places.items) in
      subst Indexes grown (c.in_ok-note_target.ensures.noted front before at (c.loop-name.invariant.noted front before at refl index));
}
