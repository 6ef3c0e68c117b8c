use Rattle.std.proofs.Common.{◌∙◌, ap, find}
use Rattle.mk_rules.specs.Book.{commands_at}
use Rattle.mk_rules.proofs.Indexes.{find-places_of}
use Rattle.mk_rules.proofs.rulebook.Rulebook.recipe_place.Goals as goal

pub returns : goal.returns
returns c =
    c.recipe_among.ensures ∙ ap (find (commands_at c.args.self.now.rules)) c.rules_of.ensures.places ∙ find-places_of c.args.self.now.rules c.args.name.now
