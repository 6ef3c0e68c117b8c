use Rattle.std.proofs.Common.{◌∙◌, sym, ap, arith, ◌≡◌, drop, [], ◌∷◌, ◌++◌, get_or}
use Rattle.std.proofs.lemmas.List.{take_rest}
use Rattle.mk_macro.specs.References.{dollar_item, dollar_length, items_of}
use Rattle.mk_macro.specs.Runs.{items_in}
use Rattle.mk_macro.proofs.Items.{items_dollar}
use Rattle.mk_macro.proofs.item.first_item.Goals as goal

pub returns-in-36-clause-items : goal.returns-in-36-clause-items
returns-in-36-clause-items c =
    let text = c.args.text.now in
    let rest = take_rest text 1 in
    let is : get_or text 0 0 ≡ 36 = grind arith in
    let item = c.dollar_item.ensures.item ∙ ap (λ xs. dollar_item xs ∷ []) rest in
    let behind = c.dollar_item.ensures.behind ∙ ap (λ xs. drop (dollar_length xs) xs) rest in
    items_dollar text (omega arith) is ∙ ap (λ items. items ++ items_of (drop (dollar_length (drop 1 text)) (drop 1 text))) (sym item) ∙ ap (λ xs. items_in c.dollar_item.result.0 ++ items_of xs) (sym behind)
