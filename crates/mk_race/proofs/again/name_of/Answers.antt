use Rattle.std.proofs.Common.{arith, sym}
use Rattle.mk_race.proofs.Replanned.{no_name}
use Rattle.mk_race.proofs.again.name_of.Goals as goal

pub returns-then-n-count : goal.returns-then-n-count
returns-then-n-count c = sym (no_name c.args.jobs.now c.args.n (omega (arith, c.if-n-count.true, c.count.ensures.count)))
