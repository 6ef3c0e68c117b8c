use Rattle.std.proofs.Common.{◌==◌}
use Rattle.mk_macro.proofs.Places.{none_behind}
use Rattle.mk_macro.proofs.item.closed_by.Goals as goal

pub returns-in-None-clause-behind : goal.returns-in-None-clause-behind
returns-in-None-clause-behind c = none_behind (λ b. b == c.args.closing) c.args.text.now c.in-None.ensures.none
