use Rattle.std.proofs.Common.{sym, ◌∙◌}
use Rattle.mk_text.proofs.Plain.{plain_name-plain}
use Rattle.mk_text.proofs.spelling.plain_name.Goals as goal

pub returns-then-is_plain_path : goal.returns-then-is_plain_path
returns-then-is_plain_path c = c.from_bytes.ensures ∙ c.in_ok-from_slice.ensures.items ∙ sym (plain_name-plain c.args.root.now c.args.path.now (sym c.is_plain_path.ensures ∙ c.if-is_plain_path.true))
