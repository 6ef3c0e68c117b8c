use Rattle.std.proofs.Common.{◌∙◌, ◌++◌, ap}
use Rattle.mk_macro.proofs.Layers.{finished}
use Rattle.mk_macro.proofs.output.Output.finish.Goals as goal

pub returns : goal.returns
returns c = λ text o. c.in_ok-extend_from_slice.ensures.items ∙ ap (λ xs. c.self.inside.done.items ++ xs) c.kept.ensures ∙ finished c.args.self _ text c.self.view_is o
