use Rattle.std.proofs.Common.{sym, ap, ◌∙◌, option_and_then}
use Rattle.json.specs.Find as spelled
use Rattle.json.specs.Value.{value_view}
use Rattle.mk_json.proofs.Finding.{text_found}
use Rattle.mk_json.proofs.document.Document.text.Goals as goal

pub returns-in-Some : goal.returns-in-Some
returns-in-Some c =
    let j = value_view c.args.self.now.value in
    c.as_str.ensures ∙ ap (option_and_then spelled.as_str) c.in-Some.ensures ∙ sym (text_found c.args.key.now j c.args.self.now.meant)

pub returns-in-None : goal.returns-in-None
returns-in-None c =
    let j = value_view c.args.self.now.value in
    ap (option_and_then spelled.as_str) c.in-None.ensures ∙ sym (text_found c.args.key.now j c.args.self.now.meant)
