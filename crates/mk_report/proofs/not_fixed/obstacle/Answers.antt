use Rattle.std.proofs.Common.{arith, sym}
use Rattle.mk_report.proofs.FixLines.{no_obstacle}
use Rattle.mk_report.proofs.not_fixed.obstacle.Goals as goal

pub returns-then-second-count : goal.returns-then-second-count
returns-then-second-count c =
    sym (no_obstacle c.args.jobs.now c.args.second c.args.words c.if-not-words.false (omega (arith, c.if-second-count.true, c.count.ensures.count)))
