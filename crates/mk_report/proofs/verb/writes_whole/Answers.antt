use Rattle.std.proofs.Common.{arith, sym}
use Rattle.mk_report.proofs.PastTheEnd.{nothing_whole}
use Rattle.mk_report.proofs.verb.writes_whole.Goals as goal

pub returns-then-number-count : goal.returns-then-number-count
returns-then-number-count c =
    sym (nothing_whole c.args.jobs.now c.args.number c.args.path.now c.count.ensures.shape (omega (arith, c.if-number-count.true, c.count.ensures.count)))
