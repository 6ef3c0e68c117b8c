use Rattle.std.proofs.Common.{arith, refl}
use Rattle.std.proofs.lemmas.List.{take_rest}
use Rattle.mk_macro.proofs.Over.{long_blank, long_word, over_later}
use Rattle.mk_macro.proofs.Settling.{last_settled, long_front, word_end}
use Rattle.mk_macro.proofs.substitution.push_words.Goals as goal

pub returns-in_err-push_word-clause-over : goal.returns-in_err-push_word-clause-over
returns-in_err-push_word-clause-over c =
    over_later c.from_residual.result _ _ _ _ c.from_residual.ensures.1 c.in_err-push_word.ensures.over
    (λ later. long_word _ _ _ _ _ _ _ (c.words.invariant.same later) (c.in-Some.ensures.some c.args.change.now later))

pub returns-in_err-push_bytes-clause-over : goal.returns-in_err-push_bytes-clause-over
returns-in_err-push_bytes-clause-over c =
    over_later c.from_residual-in_err-push_bytes.result _ _ _ _ c.from_residual-in_err-push_bytes.ensures.1 c.in_err-push_bytes.ensures.over
    (λ later. long_blank _ _ _ _ _ _ _ _ (c.words.invariant.same later) (c.in-Some.ensures.some c.args.change.now later) c.in_ok-push_word.ensures.text)

pub returns-in_err-push_bytes-2-clause-over : goal.returns-in_err-push_bytes-2-clause-over
returns-in_err-push_bytes-2-clause-over c =
    over_later c.from_residual-in_err-push_bytes-2.result _ _ _ _ c.from_residual-in_err-push_bytes-2.ensures.1 c.in_err-push_bytes-2.ensures.over
    (long_front c.args.change.now c.args.text.now c.args.out.now.items c.words.rest.now c.words.out.items _ c.saturating_sub-end.result c.words.invariant.same c.in_default.ensures.none (omega (arith, c.saturating_sub-end.ensures, c.reach.ensures)) refl)

pub returns-clause-same : goal.returns-clause-same
returns-clause-same c =
    last_settled c.args.change.now c.args.text.now c.args.out.now.items c.words.rest.now c.words.out.items _ _ _ c.saturating_sub-end.result c.words.invariant.same c.in_default.ensures.none (omega (arith, c.saturating_sub-end.ensures, c.reach.ensures)) refl (take_rest c.words.rest.now c.saturating_sub-end.result) c.in_ok-push_bytes-2.ensures.text

pub returns-clause-word : goal.returns-clause-word
returns-clause-word c = word_end c.words.rest.now _ c.saturating_sub-end.result c.in_default.ensures.none (take_rest c.words.rest.now c.saturating_sub-end.result)
