use Rattle.std.proofs.Common.{◌∙◌}
use Rattle.json.specs.Value.{value_view}
use Rattle.mk_json.proofs.Finding.{text_meant}
use Rattle.mk_json.proofs.members.text_in.Goals as goal

pub returns : goal.returns
returns c = c.as_str.ensures ∙ text_meant (value_view c.args.item.now)
