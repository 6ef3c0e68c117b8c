use Rattle.std.proofs.Common.{rules}
use Rattle.mk_report.specs.MissingText.{missing_pair}
use Rattle.mk_report.proofs.MissingLines.{texts_more}
use Rattle.mk_report.proofs.missing.push_all_missing.Goals as goal

pub loop-pair-preserved : goal.loop-pair-preserved
loop-pair-preserved c =
    let pairs = c.args.found.now.missing.items in
    texts_more (missing_pair c.args.jobs.now c.args.listing.now c.args.found.now) pairs c.loop-pair.pair-index (0, 0) c.args.out.now.items c.loop-pair.out.items
    c.push_missing.new.out.items (search rules) c.loop-pair.invariant (search rules)
