use Rattle.std.proofs.Common.{◌∙◌, ap}
use Rattle.mk_macro.specs.Macros.{macros_of}
use Rattle.mk_macro.proofs.Table.{look_up}
use Rattle.mk_macro.proofs.macros.Macros.definition.Goals as goal

pub returns : goal.returns
returns c =
    c.get.ensures.value ∙ look_up c.self.inside.table.entries c.args.name.now ∙ ap (λ es. macros_of es c.args.name.now) c.self.view_is
