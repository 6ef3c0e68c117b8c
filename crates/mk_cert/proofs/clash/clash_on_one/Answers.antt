use Rattle.std.proofs.Common.{[], false, arith}
use Rattle.std.proofs.lemmas.Bool.{false≢true}
use Rattle.mk_cert.proofs.OnPaths.{none_on}
use Rattle.mk_cert.proofs.clash.clash_on_one.Goals as goal

pub returns : goal.returns
returns c = (
  λ is. absurd (false≢true is),
  λ one. absurd (none_on c.args.jobs.now c.args.a c.args.b c.args.paths.now c.args.text.now (record { name = []; tree = false })
      (λ k inside. c.loop-p.invariant k (omega (arith, inside, c.loop-p-test.false))) one),
)
