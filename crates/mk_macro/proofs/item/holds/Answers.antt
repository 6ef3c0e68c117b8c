use Rattle.std.proofs.Common.{◌∙◌, sym, ◌==◌}
use Rattle.mk_macro.proofs.Places.{any_found}
use Rattle.mk_macro.proofs.item.holds.Goals as goal

pub returns : goal.returns
returns c = c.is_some.ensures ∙ sym (any_found (λ b. b == c.args.byte) c.args.text.now c.memchr.result c.memchr.ensures)
