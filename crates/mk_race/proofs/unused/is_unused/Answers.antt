use Rattle.mk_race.proofs.Noting.{made_is_used, unmade_is_unused}
use Rattle.mk_race.proofs.unused.is_unused.Goals as goal

pub returns-then-has_recipe : goal.returns-then-has_recipe
returns-then-has_recipe c =
    made_is_used c.args.footprints.now c.args.plan.now.nodes c.args.n c.maker.result c.has_recipe.result c.maker.ensures c.has_recipe.ensures c.if-has_recipe.true

pub returns : goal.returns
returns c =
    unmade_is_unused c.args.footprints.now c.args.plan.now.nodes c.args.n c.maker.result c.has_recipe.result c.name.result.now c.has.result
    c.maker.ensures c.has_recipe.ensures c.if-has_recipe.false c.name.ensures c.has.ensures
