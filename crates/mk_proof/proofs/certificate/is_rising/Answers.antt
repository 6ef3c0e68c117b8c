use Rattle.std.proofs.Common.{◌-◌, arith, refl}
use Rattle.std.proofs.lemmas.Bool.{false≢true}
use Rattle.std.proofs.lemmas.Map.Keys.{below_from_sorted, sorted_from_strictly_increasing}
use Rattle.mk_proof.proofs.certificate.is_rising.Goals as goal

pub returns-then-numbers-place : goal.returns-then-numbers-place
returns-then-numbers-place c = (
  λ is. absurd (false≢true is),
  λ sorted. absurd (let up = below_from_sorted c.args.numbers.now (c.loop-place.place - 1) c.loop-place.place 0 sorted (omega arith) (omega arith) in omega (arith, c.if-numbers-place.true)),
)

pub returns : goal.returns
returns c = (λ is. sorted_from_strictly_increasing c.args.numbers.now (λ k inside. c.loop-place.invariant k (omega arith)), λ sorted. refl)
