use Rattle.std.proofs.Common.{arith, sym}
use Rattle.mk_report.proofs.PastTheEnd.{not_phony}
use Rattle.mk_report.proofs.fixes.is_phony.Goals as goal

pub returns-then-number-count : goal.returns-then-number-count
returns-then-number-count c = sym (not_phony c.args.jobs.now c.args.number (omega (arith, c.if-number-count.true, c.count.ensures.count)))
