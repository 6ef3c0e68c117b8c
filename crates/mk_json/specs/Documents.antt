-- What a text of JSON means that was read over itself.
use Rattle.std.specs.Prelude.{List, [], ◌∷◌, unwrap_or}
use Rattle.json.specs.Value.{value_view}
use Rattle.json.specs.declared.value.Value.{Value}
use Rattle.serde_json.specs.Data.{Data, Items, null, no_items, item}
use Rattle.serde_json.specs.Read.{of_json}
use Rattle.mk_json.specs.declared.document.Document.{Document}

-- what `serde_json` would read in a value; each value of a document has a meaning
abbrev pub data_in : {A : Type 0} → Value A → Data
data_in value = unwrap_or (of_json (value_view value)) null

-- the same of the values of a list
abbrev pub items_in : {A : Type 0} → List (Value A) → Items
items_in [] = no_items
items_in (value ∷ values) = item (data_in value) (items_in values)

-- what `serde_json` would read in the text
abbrev pub data_of : Document → Data
data_of document = data_in document.value
