use Rattle.std.proofs.Common.{◌≡◌, ◌<◌, ◌≤◌, List, length, get_or, ◌∙◌, ap, subst}
use Rattle.mk_rules.specs.Book.{Entry}
use Rattle.mk_rules.proofs.Recipes.{second_here, second_none, second_not_here}
use Rattle.mk_rules.proofs.rulebook.Rulebook.second_recipe.Goals as goal

pub returns-in-Some : goal.returns-in-Some
returns-in-Some c =
    let all = c.deref-rule-items.ensures.value ∙ (ap (λ b. b.rules) c.self.view_is) in
    let Within : List Entry → Type 0 = λ l. c.loop-place.place < length l in
    let Is : List Entry → Type 0 = λ l. c.rule-item.result ≡ get_or l c.loop-place.place c.rule-item.result in
    second_here c.args.self.now.rules c.loop-place.place c.rule-item.result (subst Within all c.loop-place-test.true) (subst Is all c.rule-item.is) _ c.in-Some.name.now c.loop-place.invariant c.in-Some.ensures

pub loop-place-preserved : goal.loop-place-preserved
loop-place-preserved c =
    let all = c.deref-rule-items.ensures.value ∙ (ap (λ b. b.rules) c.self.view_is) in
    let Within : List Entry → Type 0 = λ l. c.loop-place.place < length l in
    let Is : List Entry → Type 0 = λ l. c.rule-item.result ≡ get_or l c.loop-place.place c.rule-item.result in
    second_not_here c.args.self.now.rules c.loop-place.place c.rule-item.result (subst Within all c.loop-place-test.true) (subst Is all c.rule-item.is) _ c.loop-place.invariant c.in_default.ensures

pub returns : goal.returns
returns c =
    let all = c.deref-rule-items.ensures.value ∙ (ap (λ b. b.rules) c.self.view_is) in
    let Past : List Entry → Type 0 = λ l. length l ≤ c.loop-place.place in
    second_none c.args.self.now.rules c.loop-place.place _ (subst Past all c.loop-place-test.false) c.loop-place.invariant
