use Rattle.std.proofs.Common.{None, ap, ◌∙◌, option_and_then}
use Rattle.std.specs.Global.{Global}
use Rattle.json.specs.Find as spelled
use Rattle.json.specs.Value.{value_view}
use Rattle.mk_json.proofs.Finding.{list_found}
use Rattle.mk_json.proofs.document.Document.items.Goals as goal

pub returns-in-Some : goal.returns-in-Some
returns-in-Some c =
    let j = value_view c.args.self.now.value in
    list_found c.args.key.now j c.items_of.result c.args.self.now.meant (c.items_of.ensures ∙ ap (option_and_then spelled.as_array) c.in-Some.ensures)

pub returns-in-None : goal.returns-in-None
returns-in-None c =
    let j = value_view c.args.self.now.value in
    list_found {A = Global} c.args.key.now j None c.args.self.now.meant (ap (option_and_then spelled.as_array) c.in-None.ensures)
