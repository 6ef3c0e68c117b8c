use Rattle.std.proofs.Common.{sym}
use Rattle.mk_index.proofs.Sweeping.{innermost_is}
use Rattle.mk_index.proofs.sweep.innermost.Goals as goal

pub returns-in-Some-clause-some : goal.returns-in-Some-clause-some
returns-in-Some-clause-some c = innermost_is c.args.stack.now c.in-Some.top.now (sym c.in-Some.ensures.value)
