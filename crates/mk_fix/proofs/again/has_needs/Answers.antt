use Rattle.std.proofs.Common.{◌∙◌, ap, refl, sym}
use Rattle.std.proofs.lemmas.Bool.{false≢true}
use Rattle.mk_jobs.specs.Jobs.{has_commands}
use Rattle.mk_fix.proofs.Remade.{recipe_is}
use Rattle.mk_fix.proofs.again.has_needs.Goals as goal

pub returns-then-not-has_recipe : goal.returns-then-not-has_recipe
returns-then-not-has_recipe c = (
  λ is. record {
    kept = c.keeps_needs.ensures.0 c.if-not-keeps_needs.false;
    only = λ has.
        let none = sym c.if-not-has_recipe.true ∙ c.has_recipe.ensures ∙ ap has_commands c.maker.ensures ∙ sym (recipe_is c.args.jobs.now c.args.n) in
        absurd (false≢true (none ∙ has));
  },
  λ needs. refl,
)

pub returns : goal.returns
returns c =
    let some = recipe_is c.args.jobs.now c.args.n ∙ ap has_commands (sym c.maker.ensures) ∙ sym c.has_recipe.ensures ∙ c.if-not-has_recipe.false in (
      λ is. record { kept = c.keeps_needs.ensures.0 c.if-not-keeps_needs.false; only = λ has. c.has_no_others.ensures.0 is },
      λ needs. c.has_no_others.ensures.1 (needs.only some),
    )
