use Rattle.std.proofs.Common.{◌∷◌, [], ap₂, sym, ◌∙◌, arith}
use Rattle.std.specs.Fmt.{decimal}
use Rattle.mk_proof.specs.ProofText.{ProofLine, Word, words_of}
use Rattle.mk_proof.proofs.Following.{heads, tails}
use Rattle.mk_proof.proofs.Found.{no_two, number_word, word_number}
use Rattle.mk_proof.proofs.Words.{cut_parts}
use Rattle.mk_proof.proofs.number.pair.Goals as goal

pub returns-in_err-first : goal.returns-in_err-first
returns-in_err-first c =
    rw c.from_residual.ensures (λ p small is. no_two c.args.text.now (decimal p.0) (decimal p.1) [] c.in_err-first.ensures.none (sym is))

pub returns-in_err-number : goal.returns-in_err-number
returns-in_err-number c =
    let first = c.in_ok-first.first.now in
    let second = c.in_ok-first.second.now in
    let cut = cut_parts 32 c.args.text.now first second c.in_ok-first.ensures.cut in
    rw c.from_residual-in_err-number.ensures (λ p small is. c.in_err-number.ensures p.0 small.0 (heads (decimal p.0) first (decimal p.1 ∷ []) (words_of second) (is ∙ cut)))

pub returns-in_err-number-2 : goal.returns-in_err-number-2
returns-in_err-number-2 c =
    let first = c.in_ok-first.first.now in
    let second = c.in_ok-first.second.now in
    let cut = cut_parts 32 c.args.text.now first second c.in_ok-first.ensures.cut in
    rw c.from_residual-in_err-number-2.ensures (λ p small is.
    c.in_err-number-2.ensures p.1 small.1 (word_number p.1 second (omega (arith, small.1)) (tails (decimal p.0) first (decimal p.1 ∷ []) (words_of second) (is ∙ cut))))

pub returns : goal.returns
returns c =
    let first = c.in_ok-first.first.now in
    let second = c.in_ok-first.second.now in
    let cut = cut_parts 32 c.args.text.now first second c.in_ok-first.ensures.cut in
    let one = c.in_ok-number.ensures in
    let two = c.in_ok-number-2.ensures in (
      (one.0, two.0),
      ap₂ (λ (w : Word) (ws : ProofLine). w ∷ ws) one.1 (sym (number_word c.in_ok-number-2.field-0 second (omega (arith, two.0)) two.1)) ∙ sym cut,
    )
