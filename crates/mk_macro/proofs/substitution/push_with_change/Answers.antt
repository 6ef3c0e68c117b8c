use Rattle.std.proofs.Common.{◌≡◌, ◌∙◌, [], ◌++◌, length, sym, ap, arith, length-append}
use Rattle.std.proofs.lemmas.List.{append-nil}
use Rattle.mk_macro.specs.Substitution.{changed_word, with_change}
use Rattle.mk_macro.proofs.Over.{ok_more, over_left, over_result}
use Rattle.mk_macro.proofs.Weaving.{change_last}
use Rattle.mk_macro.proofs.substitution.push_with_change.Goals as goal

pub returns-in_err-left-clause-over : goal.returns-in_err-left-clause-over
returns-in_err-left-clause-over c =
    let change = c.args.change.now in
    let size = ap (λ xs. length (with_change change xs)) (append-nil c.args.text.now) in
    over_left c.from_residual.result _ _ _ _ c.from_residual.ensures.1 (c.in_err-left.ensures.over []) (omega (arith, size))

pub returns-clause-text : goal.returns-clause-text
returns-clause-text c =
    let change = c.args.change.now in
    let text = c.args.text.now in
    let left = c.in_ok-left.left.now in
    let last = ap (with_change change) (append-nil left) ∙ change_last left c.in_ok-left.ensures.word change in
    let whole : c.push_words.new.out.items ++ changed_word change left ≡ c.args.out.now.items ++ with_change change text =
    ap (λ xs. c.push_words.new.out.items ++ xs) (sym last) ∙ c.in_ok-left.ensures.same [] ∙ ap (λ xs. c.args.out.now.items ++ with_change change xs) (append-nil text) in
    ok_more c.push_word.result c.push_word.ensures.text (λ put. put ∙ whole)

pub returns-clause-over : goal.returns-clause-over
returns-clause-over c =
    let change = c.args.change.now in
    let text = c.args.text.now in
    let left = c.in_ok-left.left.now in
    let last = ap (with_change change) (append-nil left) ∙ change_last left c.in_ok-left.ensures.word change in
    let whole : c.push_words.new.out.items ++ changed_word change left ≡ c.args.out.now.items ++ with_change change text =
    ap (λ xs. c.push_words.new.out.items ++ xs) (sym last) ∙ c.in_ok-left.ensures.same [] ∙ ap (λ xs. c.args.out.now.items ++ with_change change xs) (append-nil text) in
    over_result c.push_word.result _ _ _ c.push_word.ensures.over
    (omega (arith, ap length whole, length-append c.push_words.new.out.items (changed_word change left), length-append c.args.out.now.items (with_change change text)))
