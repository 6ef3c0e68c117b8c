use Rattle.std.proofs.Common.{◌+◌, ◌*◌, length, ap, sym, subst, ◌∙◌, arith, inl, inr}
use Rattle.std.proofs.lemmas.Bool.{eqb-false, eqb-true}
use Rattle.std.proofs.lemmas.List.{take_all}
use Rattle.std.specs.Str.Parse.{AllDigits, digits_value}
use Rattle.mk_proof.proofs.Found.{ReadsDigits, digit_more, number_digit, number_shape, number_some, so_far}
use Rattle.mk_proof.proofs.number.number.Goals as goal
use Rattle.mk_proof.proofs.number.number.Goals.{then-is_empty-via-then-is_empty, then-is_empty-via-else-is_empty+then-text-gt-MOST_DIGITS, then-is_empty-via-else-is_empty+else-text-gt-MOST_DIGITS+then-text-gt1}

pub returns-then-is_empty : goal.returns-then-is_empty
returns-then-is_empty c = λ n small is.
    let shape = number_shape c.args.text.now n small is in
    elim c.then-is_empty.branch [
      | then-is_empty-via-then-is_empty w ↦ let none = eqb-true (length c.args.text.now) 0 (sym w.if-is_empty.ensures) in omega (arith, shape.0, none)
      | then-is_empty-via-else-is_empty+then-text-gt-MOST_DIGITS w ↦ omega (arith, shape.1, w.if-text-gt-MOST_DIGITS.true)
      | then-is_empty-via-else-is_empty+else-text-gt-MOST_DIGITS+then-text-gt1 w ↦ let one = shape.2 w.if-text-gt1.true.0 in omega (arith, one, w.if-text-gt1.true.1)
    ]

pub returns-then-not-is_ascii_digit : goal.returns-then-not-is_ascii_digit
returns-then-not-is_ascii_digit c = λ n small is.
    let digit = number_digit c.args.text.now n c.loop-byte.byte-index small is c.loop-byte-test.true in
    elim c.if-not-is_ascii_digit.ensures.cases [ inl low ↦ omega (arith, digit.0, low) | inr high ↦ omega (arith, digit.1, high) ]

pub overflow_mul-number : goal.overflow_mul-number
overflow_mul-number c =
    let small = so_far c.args.text.now c.loop-byte.byte-index c.loop-byte.number c.loop-byte.invariant c.if-text-gt-MOST_DIGITS.false c.loop-byte-test.true in omega (arith, small)

pub overflow_add-number : goal.overflow_add-number
overflow_add-number c =
    let small = so_far c.args.text.now c.loop-byte.byte-index c.loop-byte.number c.loop-byte.invariant c.if-text-gt-MOST_DIGITS.false c.loop-byte-test.true in
    omega (arith, small, c.from.ensures, c.if-not-is_ascii_digit.ensures.cases.1)

pub loop-byte-preserved : goal.loop-byte-preserved
loop-byte-preserved c =
    let digit = c.if-not-is_ascii_digit.ensures.cases in
    subst (λ d. ReadsDigits c.args.text.now (c.loop-byte.byte-index + 1) (c.loop-byte.number * 10 + d)) (sym c.from.ensures)
    (digit_more c.args.text.now c.loop-byte.byte-index c.loop-byte.number c.loop-byte.invariant c.loop-byte-test.true digit.0 digit.1)

pub returns : goal.returns
returns c =
    let text = c.args.text.now in
    let all = take_all c.loop-byte.byte-index text c.loop-byte-test.false in
    let some = eqb-false (length text) 0 (sym c.if-is_empty.ensures) in
    number_some text c.loop-byte.number (c.loop-byte.invariant.value ∙ ap (digits_value 10) all) (subst (AllDigits 10) all c.loop-byte.invariant.digits) (omega (arith, some)) c.if-text-gt-MOST_DIGITS.false
    (λ nought. elim c.if-text-gt1.either [ inl few ↦ omega (arith, few.1, some) | inr other ↦ absurd (other nought) ])
