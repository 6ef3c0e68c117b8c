use Rattle.std.proofs.Common.{sym, ◌∙◌, ap, false, nat_lt}
use Rattle.std.specs.Option.{option_map_or}
use Rattle.mk_rules.proofs.Recipes.{has_recipe-take}
use Rattle.mk_rules.proofs.rulebook.Rulebook.has_recipe_before.Goals as goal

pub returns-in-Some : goal.returns-in-Some
returns-in-Some c =
    ap (λ o. option_map_or (λ i. nat_lt i c.args.place) o false) c.in-Some.ensures ∙ sym (has_recipe-take c.args.self.now.rules c.args.place c.args.name.now)

pub returns-in-None : goal.returns-in-None
returns-in-None c =
    ap (λ o. option_map_or (λ i. nat_lt i c.args.place) o false) c.in-None.ensures ∙ sym (has_recipe-take c.args.self.now.rules c.args.place c.args.name.now)
