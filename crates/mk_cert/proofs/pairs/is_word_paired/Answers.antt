use Rattle.std.proofs.Common.{◌≡◌, ◌<◌, ◌+◌, ◌*◌, ◌%◌, ◌∙◌, ap, arith, inl, inr, refl, subst, sym}
use Rattle.std.proofs.lemmas.Bool.{cases_eq, false≢true}
use Rattle.mk_index.specs.Bits.{HasBit}
use Rattle.mk_cert.specs.Pairs.{IsPaired}
use Rattle.mk_cert.proofs.pairs.is_word_paired.Goals as goal
use Rattle.mk_cert.proofs.pairs.is_word_paired.Goals.{else-a-b-via-then-a-b+then-has_bit+else-not-has_pair, else-a-b-via-then-a-b+else-has_bit, else-a-b-via-else-a-b}

pub loop-bit-preserved : goal.loop-bit-preserved
loop-bit-preserved c = λ a k below is apart has. elim (cases_eq k c.loop-bit.bit) [
  | inl same ↦
      let here : a ≡ 64 * c.args.place + c.loop-bit.bit = is ∙ ap (λ n. 64 * c.args.place + n) same in
      elim c.else-a-b.branch [
        | else-a-b-via-then-a-b+then-has_bit+else-not-has_pair w ↦
            subst (λ n. IsPaired c.args.certificate.now n c.args.b) (sym here) (w.has_pair.ensures.0 w.if-not-has_pair.false)
        | else-a-b-via-then-a-b+else-has_bit w ↦
            absurd (false≢true (sym w.if-has_bit.false ∙ w.has_bit.ensures.1 (subst (HasBit c.args.row.now) here has)))
        | else-a-b-via-else-a-b w ↦ absurd (apart (here ∙ w.if-a-b.false))
      ]
  | inr other ↦ c.loop-bit.invariant a k (omega (arith, below)) is apart has
]

pub returns : goal.returns
returns c = (
  λ is a same apart has.
      let inside : a % 64 < c.loop-bit.bit = omega (arith, c.loop-bit-test.false) in
      let whole : a ≡ 64 * c.args.place + a % 64 = omega (arith, same) in
      c.loop-bit.invariant a (a % 64) inside whole apart has,
  λ all. refl,
)
