use Rattle.std.proofs.Common.{ap, ◌∙◌}
use Rattle.mk_include.specs.Includes.{texts_of}
use Rattle.mk_include.proofs.TextTable.{look_up}
use Rattle.mk_include.proofs.includes.Includes.find.Goals as goal

pub returns : goal.returns
returns c = c.get.ensures.value ∙ look_up c.self.inside.table.entries c.args.name.now ∙ ap (λ es. texts_of es c.args.name.now) c.self.view_is
