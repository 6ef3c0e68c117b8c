use Rattle.std.proofs.Common.{◌∙◌, ap, refl, sym}
use Rattle.std.proofs.lemmas.Bool.{false≢true}
use Rattle.mk_jobs.specs.Jobs.{has_commands}
use Rattle.mk_fix.proofs.Remade.{recipe_is}
use Rattle.mk_fix.proofs.again.is_same_node.Goals as goal

pub returns-then-not-has_recipe : goal.returns-then-not-has_recipe
returns-then-not-has_recipe c = (
  λ is. record {
    name = sym c.name.ensures.name ∙ c.is_same_name.ensures.0 c.if-not-is_same_name.false ∙ c.name-2.ensures.name;
    phony = sym c.is_phony.ensures ∙ c.is_same_flag.ensures.0 c.if-not-is_same_flag.false ∙ c.is_phony-2.ensures;
    maker = λ has.
        let none = sym c.if-not-has_recipe.true ∙ c.has_recipe.ensures ∙ ap has_commands c.maker-maker.ensures ∙ sym (recipe_is c.args.jobs.now c.args.n) in
        absurd (false≢true (none ∙ has));
  },
  λ same. refl,
)

pub returns : goal.returns
returns c =
    let some = recipe_is c.args.jobs.now c.args.n ∙ ap has_commands (sym c.maker-maker.ensures) ∙ sym c.has_recipe.ensures ∙ c.if-not-has_recipe.false in (
      λ is. record {
        name = sym c.name.ensures.name ∙ c.is_same_name.ensures.0 c.if-not-is_same_name.false ∙ c.name-2.ensures.name;
        phony = sym c.is_phony.ensures ∙ c.is_same_flag.ensures.0 c.if-not-is_same_flag.false ∙ c.is_phony-2.ensures;
        maker = λ has. sym c.maker.ensures ∙ c.is_same_maker.ensures.0 is ∙ c.maker-maker.ensures;
      },
      λ same. c.is_same_maker.ensures.1 (c.maker.ensures ∙ same.maker some ∙ sym c.maker-maker.ensures),
    )
