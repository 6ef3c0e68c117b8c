use Rattle.std.proofs.Common.{◌≡◌, ◌&&◌, ◌∙◌, not, Bool, true, false, refl, sym, ap}
use Rattle.std.proofs.lemmas.Bool.{false≢true}
use Rattle.mk_jobs.specs.Jobs.{has_commands, has_recipe, is_empty, is_idle, is_listed, is_phony, maker_of, prerequisites_of}
use Rattle.mk_report.proofs.counts.is_idle.Goals as goal

-- where there is a recipe that is not live, it is idle
not_live : (has idle : Bool) → has ≡ true → not (has && not idle) ≡ idle
not_live true true is = refl
not_live true false is = refl
not_live false idle is = absurd (false≢true is)

pub returns-then-has_recipe : goal.returns-then-has_recipe
unfolding has_recipe maker_of
returns-then-has_recipe c =
    let has : has_recipe c.args.jobs.now c.args.number ≡ true = sym (c.has_recipe.ensures ∙ ap has_commands c.maker.ensures) ∙ c.if-has_recipe.true in
    ap not c.is_live.ensures ∙ not_live (has_recipe c.args.jobs.now c.args.number) (is_idle c.args.jobs.now c.args.number) has

pub returns-else-has_recipe : goal.returns-else-has_recipe
unfolding has_recipe maker_of
returns-else-has_recipe c =
    let jobs = c.args.jobs.now in
    let n = c.args.number in
    let no : has_recipe jobs n ≡ false = sym (c.has_recipe.ensures ∙ ap has_commands c.maker.ensures) ∙ c.if-has_recipe.false in
    c.if-has_recipe.false ∙ sym (ap (λ (has : Bool). has && is_listed jobs n && not (is_phony jobs n) && is_empty (prerequisites_of jobs n)) no)
