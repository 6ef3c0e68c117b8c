use Rattle.std.proofs.Common.{◌∙◌, ap}
use Rattle.std.specs.Prelude.{is_some}
use Rattle.mk_task.proofs.Adding.{number_there}
use Rattle.mk_task.proofs.tasks.has_label.Goals as goal

pub returns : goal.returns
returns c = c.is_some.ensures ∙ ap is_some c.number.ensures ∙ number_there c.args.labels.now c.args.label.now
