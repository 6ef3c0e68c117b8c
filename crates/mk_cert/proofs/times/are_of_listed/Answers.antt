use Rattle.std.proofs.Common.{arith, refl}
use Rattle.mk_cert.proofs.Timing.{all_listed}
use Rattle.mk_cert.proofs.times.are_of_listed.Goals as goal

pub returns : goal.returns
returns c = (
  λ is. all_listed c.args.jobs.now c.args.table.now c.requires
      (λ n inside. c.loop-n.invariant n (omega (arith, inside, c.loop-n-test.false, c.count-n-end.ensures.count))),
  λ all. refl,
)
