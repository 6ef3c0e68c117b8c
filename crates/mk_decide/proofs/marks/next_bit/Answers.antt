use Rattle.std.proofs.Common.{arith, inl, inr}
use Rattle.std.proofs.lemmas.Bool.{cases_lt}
use Rattle.mk_decide.proofs.Marked.{no_bit_in, no_bit_past}
use Rattle.mk_decide.proofs.marks.next_bit.Goals as goal

pub loop-n-preserved-then-word-eq0 : goal.loop-n-preserved-then-word-eq0
loop-n-preserved-then-word-eq0 c = (
  omega arith,
  λ k from below bit. elim (cases_lt k c.loop-n.n) [
    | inl before ↦ c.loop-n.invariant.1 k from before bit
    | inr past ↦ no_bit_in c.args.row.now c.loop-n.n k c.if-word-eq0.true past below bit
  ],
)

pub returns-clause-none : goal.returns-clause-none
returns-clause-none c = λ k from bit. elim (cases_lt k c.loop-n.n) [
  | inl before ↦ c.loop-n.invariant.1 k from before bit
  | inr past ↦ no_bit_past c.args.row.now k (omega (arith, past, c.loop-n-test.false)) bit
]
