use Rattle.std.proofs.Common.{◌∙◌}
use Rattle.mk_macro.proofs.Layers.{opened_parts}
use Rattle.mk_macro.proofs.output.Output.begin.Goals as goal

pub returns-clause-opened : goal.returns-clause-opened
returns-clause-opened c =
    opened_parts _ _ _ c.args.change c.replace-outer.result c.replace-outer.new.dest _ c.self.view_is c.replace-outer.ensures.value c.in_ok-push.ensures.items (c.replace-outer.ensures.after ∙ c.new.ensures)
