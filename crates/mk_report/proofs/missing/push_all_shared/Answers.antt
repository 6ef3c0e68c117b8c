use Rattle.std.proofs.Common.{rules}
use Rattle.mk_report.specs.MissingText.{shared_pair}
use Rattle.mk_report.proofs.MissingLines.{texts_more}
use Rattle.mk_report.proofs.missing.push_all_shared.Goals as goal

pub loop-pair-preserved : goal.loop-pair-preserved
loop-pair-preserved c =
    let pairs = c.args.found.now.shared.items in
    texts_more (shared_pair c.args.jobs.now c.args.found.now) pairs c.loop-pair.pair-index (0, 0) c.args.out.now.items c.loop-pair.out.items
    c.push_shared.new.out.items (search rules) c.loop-pair.invariant (search rules)
