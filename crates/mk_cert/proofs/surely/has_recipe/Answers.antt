use Rattle.std.proofs.Common.{◌∙◌, ap}
use Rattle.mk_jobs.specs.Jobs.{has_commands, has_recipe, maker_of}
use Rattle.mk_cert.proofs.surely.has_recipe.Goals as goal

pub returns : goal.returns
unfolding has_recipe maker_of
returns c = c.has_recipe.ensures ∙ ap has_commands c.maker.ensures
