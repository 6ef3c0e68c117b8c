use Rattle.std.proofs.Common.{false, sym, ap, ◌∙◌, option_map}
use Rattle.std.specs.Prelude.{unwrap_or}
use Rattle.json.specs.Find as spelled
use Rattle.json.specs.Value.{value_view}
use Rattle.mk_json.proofs.Finding.{null_found}
use Rattle.mk_json.proofs.document.Document.is_null.Goals as goal

pub returns-in-Some : goal.returns-in-Some
returns-in-Some c =
    let j = value_view c.args.self.now.value in
    c.is_null.ensures ∙ ap (λ o. unwrap_or (option_map spelled.is_null o) false) c.in-Some.ensures ∙ sym (null_found c.args.key.now j c.args.self.now.meant)

pub returns-in-None : goal.returns-in-None
returns-in-None c =
    let j = value_view c.args.self.now.value in
    ap (λ o. unwrap_or (option_map spelled.is_null o) false) c.in-None.ensures ∙ sym (null_found c.args.key.now j c.args.self.now.meant)
