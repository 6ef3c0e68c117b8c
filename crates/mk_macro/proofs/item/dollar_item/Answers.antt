use Rattle.std.proofs.Common.{◌∙◌, sym, ap, arith}
use Rattle.std.proofs.lemmas.List.{take_rest}
use Rattle.mk_macro.specs.References.{behind}
use Rattle.mk_macro.proofs.Items.{round_behind, curly_behind}
use Rattle.mk_macro.proofs.item.dollar_item.Goals as goal

pub returns-in-40-clause-behind : goal.returns-in-40-clause-behind
returns-in-40-clause-behind c =
    let text = c.args.text.now in
    c.closed_by.ensures.behind ∙ ap (behind 41) (take_rest text 1) ∙ sym (round_behind text (omega arith) (grind arith))

pub returns-in-123-clause-behind : goal.returns-in-123-clause-behind
returns-in-123-clause-behind c =
    let text = c.args.text.now in
    c.closed_by-in-123.ensures.behind ∙ ap (behind 125) (take_rest text 1) ∙ sym (curly_behind text (omega arith) (grind arith))
