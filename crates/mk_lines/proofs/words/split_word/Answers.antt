use Rattle.std.proofs.Common.{◌≡◌, ◌∙◌, sym, ap, [], length, drop, arith}
use Rattle.std.specs.List.{prefix_len}
use Rattle.std.proofs.lemmas.List.{take_rest, take_all, drop_all, length-drop}
use Rattle.std.proofs.lemmas.List.Sums.{prefix_len-le-length}
use Rattle.mk_text.specs.Lexical.{is_blank, past_blanks}
use Rattle.mk_lines.proofs.Blanks.{first_word_at, later_words_at}
use Rattle.mk_lines.proofs.words.split_word.Goals as goal

pub returns-then-is_blank-clause-first : goal.returns-then-is_blank-clause-first
returns-then-is_blank-clause-first c =
    grind (arith, first_word_at c.args.text.now c.past_blanks-text.result.now c.loop-i.i c.past_blanks-text.ensures, c.loop-i.invariant)

pub returns-then-is_blank-clause-later : goal.returns-then-is_blank-clause-later
returns-then-is_blank-clause-later c =
    grind (arith, take_rest c.past_blanks-text.result.now c.loop-i.i, later_words_at c.args.text.now c.past_blanks-text.result.now c.loop-i.i c.past_blanks-text.ensures, c.loop-i.invariant)

pub returns-clause-first : goal.returns-clause-first
returns-clause-first c =
    let from = c.past_blanks-text.result.now in
    sym (take_all (length from) from (omega arith))
    ∙ first_word_at c.args.text.now from (length from) c.past_blanks-text.ensures (omega arith) (λ k below. c.loop-i.invariant k (omega arith)) (λ inside. absurd (omega arith))

pub returns-clause-later : goal.returns-clause-later
returns-clause-later c =
    let from = c.past_blanks-text.result.now in
    let none : drop (length from) from ≡ [] = drop_all (length from) from (omega arith) in
    take_rest from (length from) ∙ none ∙ ap past_blanks (sym none)
    ∙ later_words_at c.args.text.now from (length from) c.past_blanks-text.ensures (omega arith) (λ k below. c.loop-i.invariant k (omega arith)) (λ inside. absurd (omega arith))

pub returns-clause-within : goal.returns-clause-within
returns-clause-within c =
    let text = c.args.text.now in
    omega (arith, ap length c.past_blanks-text.ensures, length-drop (prefix_len is_blank text) text, prefix_len-le-length is_blank text)
