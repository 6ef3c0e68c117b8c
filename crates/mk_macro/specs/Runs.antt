-- What the code takes at once: a run of plain bytes is one item there.
use Rattle.std.specs.Prelude.{List, [], ◌∷◌, map}
use Rattle.mk_macro.specs.Reference.{Item, Plain, Refers, Broken}
use Rattle.mk_macro.specs.declared.item.Item as taken
use Rattle.mk_macro.specs.declared.item.Item.TheVariants as takes

-- the items that it stands for: each of its bytes, or one reference
abbrev pub items_in : taken.Item → List Item
items_in (takes.Plain bytes) = map Plain bytes.now
items_in (takes.Refers reference) = Refers reference ∷ []
items_in takes.Broken = Broken ∷ []
