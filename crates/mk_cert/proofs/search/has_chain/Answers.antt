use Rattle.std.proofs.Common.{◌<◌, ◌+◌, ◌-◌, ◌/◌, Less, Equal, Greater, arith, refl}
use Rattle.std.proofs.lemmas.Bool.{false≢true}
use Rattle.mk_cert.proofs.Searched.{compared, found, higher, lower, not_found}
use Rattle.mk_cert.proofs.search.has_chain.Goals as goal

pub loop-low-preserved-in-Less : goal.loop-low-preserved-in-Less
loop-low-preserved-in-Less c =
    let middle = c.loop-low.low + (c.loop-low.high - c.loop-low.low) / 2 in
    let inside : middle < c.loop-low.high = omega (arith, c.loop-low-test.true) in
    lower c.args.certificate.now (c.args.first, c.args.last) c.loop-low.low c.loop-low.high middle (middle + 1) c.count-high.ensures.shaped.rise c.loop-low.invariant inside (omega arith)
    (compared c.args.certificate.now (c.args.first, c.args.last) middle c.chain.result.now Less (omega (arith, inside, c.loop-low.invariant.inside)) c.chain.ensures c.in-Less.ensures)

pub loop-low-preserved : goal.loop-low-preserved
loop-low-preserved c =
    let middle = c.loop-low.low + (c.loop-low.high - c.loop-low.low) / 2 in
    let inside : middle < c.loop-low.high = omega (arith, c.loop-low-test.true) in
    higher c.args.certificate.now (c.args.first, c.args.last) c.loop-low.low c.loop-low.high middle c.count-high.ensures.shaped.rise c.loop-low.invariant inside
    (compared c.args.certificate.now (c.args.first, c.args.last) middle c.chain.result.now Greater (omega (arith, inside, c.loop-low.invariant.inside)) c.chain.ensures c.in-Greater.ensures)

pub returns-in-Equal : goal.returns-in-Equal
returns-in-Equal c = (
  λ is.
      let middle = c.loop-low.low + (c.loop-low.high - c.loop-low.low) / 2 in
      let inside : middle < c.loop-low.high = omega (arith, c.loop-low-test.true) in
      found c.args.certificate.now c.args.first c.args.last middle (omega (arith, inside, c.loop-low.invariant.inside))
      (compared c.args.certificate.now (c.args.first, c.args.last) middle c.chain.result.now Equal (omega (arith, inside, c.loop-low.invariant.inside)) c.chain.ensures c.in-Equal.ensures),
  λ at. refl,
)

pub returns : goal.returns
returns c = (
  λ is. absurd (false≢true is),
  λ at. absurd (not_found c.args.certificate.now c.args.first c.args.last c.loop-low.low c.loop-low.high c.loop-low.invariant c.loop-low-test.false at),
)
