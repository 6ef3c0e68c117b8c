use Rattle.std.proofs.Common.{◌∙◌, ap, is_some}
use Rattle.mk_rules.proofs.Indexes.{has_recipe-among}
use Rattle.mk_graph.proofs.makers.has_recipe.Goals as goal

pub returns : goal.returns
returns c = λ t is. c.is_some.ensures ∙ ap is_some c.recipe_among.ensures ∙ has_recipe-among c.args.book.now.rules t c.args.places.now is
