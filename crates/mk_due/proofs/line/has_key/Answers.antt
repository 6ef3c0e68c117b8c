use Rattle.std.proofs.Common.{sym, ap, ◌∙◌}
use Rattle.std.specs.Prelude.{is_some}
use Rattle.json.specs.Value.{value_view}
use Rattle.mk_due.proofs.Keys.{key_found, some_mapped}
use Rattle.mk_due.proofs.line.has_key.Goals as goal

pub returns : goal.returns
returns c =
    c.is_some.ensures ∙ some_mapped _ c.get.result ∙ ap is_some c.get.ensures
    ∙ sym (key_found c.args.key.now (value_view c.args.object.now.value) c.args.object.now.meant)
