use Rattle.std.proofs.Common.{sym, ap, ◌∙◌, option_and_then}
use Rattle.json.specs.Find as spelled
use Rattle.json.specs.Value.{value_view}
use Rattle.serde_json.specs.Find.{as_u64}
use Rattle.serde_json.specs.Read.{number_of}
use Rattle.mk_json.proofs.Finding.{number_found}
use Rattle.mk_json.proofs.document.Document.whole.Goals as goal

pub returns-in-Some : goal.returns-in-Some
returns-in-Some c =
    let j = value_view c.args.self.now.value in
    c.whole_in.ensures ∙ ap (λ o. option_and_then as_u64 (option_and_then number_of (option_and_then spelled.as_number o))) c.in-Some.ensures
    ∙ ap (option_and_then as_u64) (sym (number_found c.args.key.now j c.args.self.now.meant))

pub returns-in-None : goal.returns-in-None
returns-in-None c =
    let j = value_view c.args.self.now.value in
    ap (λ o. option_and_then as_u64 (option_and_then number_of (option_and_then spelled.as_number o))) c.in-None.ensures
    ∙ ap (option_and_then as_u64) (sym (number_found c.args.key.now j c.args.self.now.meant))
