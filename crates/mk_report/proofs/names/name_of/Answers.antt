use Rattle.std.proofs.Common.{arith, sym}
use Rattle.mk_report.proofs.PastTheEnd.{no_name}
use Rattle.mk_report.proofs.names.name_of.Goals as goal

pub returns-then-number-count : goal.returns-then-number-count
returns-then-number-count c = sym (no_name c.args.jobs.now c.args.number (omega (arith, c.if-number-count.true, c.count.ensures.count)))
